use Rattle.std.proofs.Common.{◌≡◌, length}
use Rattle.vmv_edge_trials.proofs.links.links.Given as goal

abbrev pub invariant-loop-line : goal.invariant-loop-line
invariant-loop-line l =
    (goal.iterator-loop-line).can_next l.line-iterator ×
    (goal.iterator-loop-line).is_finite l.line-iterator ×
    (length l.links.lists ≡ 2) ×
    (l.links.size ≡ 4)
