use Rattle.std.proofs.Common.{◌≡◌, ℕ, ◌<◌, ◌≤◌, ◌↔◌, length}
use Rattle.vmv_zone.specs.Bounds.{IsMarkedIn}
use Rattle.vmv_zone.proofs.order.keep_shared.Given as goal

abbrev pub invariant-loop-i : goal.invariant-loop-i
invariant-loop-i l = record {
  full : length l.marks ≡ 18;
  done : (k : ℕ) → k < l.i → IsMarkedIn l.marks k ↔ (IsMarkedIn l.initial.marks k × IsMarkedIn l.other k);
  rest : (k : ℕ) → l.i ≤ k → IsMarkedIn l.marks k ↔ IsMarkedIn l.initial.marks k;
}
