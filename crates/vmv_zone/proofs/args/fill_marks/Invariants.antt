use Rattle.std.proofs.Common.{◌≡◌, ◌<◌, ◌≤◌, ◌↔◌, ℕ, length}
use Rattle.vmv_zone.specs.Bounds.{IsMarkedIn}
use Rattle.vmv_zone.specs.Operand.{IsNonzero}
use Rattle.vmv_zone.specs.Args.{argument_at}
use Rattle.vmv_zone.proofs.args.fill_marks.Given as goal

abbrev pub invariant-loop-i : goal.invariant-loop-i
invariant-loop-i l = record {
  full : length l.marks ≡ 18;
  done : (k : ℕ) → 1 ≤ k → k < l.i → IsMarkedIn l.marks k ↔ IsNonzero l.before (argument_at l.args k);
  variables : (k : ℕ) → IsMarkedIn l.marks k → (1 ≤ k) × (k < l.i);
}
