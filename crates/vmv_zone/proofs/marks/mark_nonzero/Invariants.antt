use Rattle.std.proofs.Common.{◌≡◌, length, ℕ, ◌≤◌, ◌<◌, ◌⊎◌}
use Rattle.vmv_zone.specs.Bounds.{IsMarkedIn, ExcludesZero, IsOffZeroVariable}
use Rattle.vmv_zone.proofs.marks.mark_nonzero.Given as goal

abbrev pub invariant-loop-i : goal.invariant-loop-i
invariant-loop-i l = record {
  full : length l.marks ≡ 18;
  keeps : (i : ℕ) → IsMarkedIn l.initial.marks i → IsMarkedIn l.marks i;
  marked : (i : ℕ) → 1 ≤ i → i < l.i → ExcludesZero l.bounds i → IsMarkedIn l.marks i;
  only : (i : ℕ) → IsMarkedIn l.marks i → IsMarkedIn l.initial.marks i ⊎ IsOffZeroVariable l.vars l.bounds i;
}
