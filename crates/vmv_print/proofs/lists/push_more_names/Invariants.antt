use Rattle.std.proofs.Common.{◌≡◌, ◌++◌, drop}
use Rattle.std.specs.Prelude.{All}
use Rattle.vmv_print.specs.Canonical.{after_commas}
use Rattle.vmv_print.specs.Written.{IsName}
use Rattle.vmv_print.proofs.lists.push_more_names.Given as goal

abbrev pub invariant-loop-name : goal.invariant-loop-name
invariant-loop-name l = record {
  text : l.out.items ++ after_commas (λ x. x) (drop l.name-index l.names) ≡ l.fn.out.items ++ after_commas (λ x. x) l.names;
  written : All IsName (drop l.name-index l.names) → All IsName l.names;
}
