use Rattle.std.proofs.Common.{◌≡◌, ◌+◌, ◌++◌, drop}
use Rattle.vmv_valid.specs.Walks.{walk_names}
use Rattle.vmv_valid.proofs.procedure.walk_names.Given as goal

-- the walk over what is left is that over all
abbrev pub invariant-loop-name : goal.invariant-loop-name
invariant-loop-name l = record {
  told : walk_names l.next l.declared.items (drop l.name-index l.names) ≡ walk_names l.at l.fn.declared.items l.names;
  declared : l.declared.items ++ drop l.name-index l.names ≡ l.fn.declared.items ++ l.names;
  next : l.next ≡ l.at + l.name-index;
}
