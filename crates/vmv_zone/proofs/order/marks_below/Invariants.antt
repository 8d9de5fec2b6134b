use Rattle.std.proofs.Common.{ℕ, ◌<◌, ◌≤◌}
use Rattle.vmv_zone.specs.Bounds.{IsMarkedIn}
use Rattle.vmv_zone.proofs.order.marks_below.Given as goal

abbrev pub invariant-loop-i : goal.invariant-loop-i
invariant-loop-i l = (i : ℕ) → 1 ≤ i → i < l.i → IsMarkedIn l.other i → IsMarkedIn l.marks i
