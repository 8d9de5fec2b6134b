use Rattle.std.proofs.Common.{◌≡◌, ◌+◌, ◌++◌, map, drop}
use Rattle.vmv_valid.specs.Walks.{walk_params}
use Rattle.vmv_valid.proofs.procedure.walk_params.Given as goal

-- the walk over what is left is that over all
abbrev pub invariant-loop-param : goal.invariant-loop-param
invariant-loop-param l = record {
  told : walk_params l.next l.declared.items (drop l.param-index l.params) ≡ walk_params l.at l.fn.declared.items l.params;
  declared : l.declared.items ++ map (λ p. p.name) (drop l.param-index l.params) ≡ l.fn.declared.items ++ map (λ p. p.name) l.params;
  next : l.next ≡ l.at + l.param-index;
}
