use Rattle.std.proofs.Common.{drop, map, ◌↔◌}
use Rattle.vmv_tree.specs.Safe.{FitParams}
use Rattle.vmv_witness.proofs.fitting.are_in_range.Given as goal

abbrev pub invariant-loop-i : goal.invariant-loop-i
invariant-loop-i l =
    FitParams (drop l.i l.params) (map (λ p. p.value) (drop l.i l.values)) ↔ FitParams l.params (map (λ p. p.value) l.values)
