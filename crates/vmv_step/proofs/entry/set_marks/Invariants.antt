use Rattle.std.proofs.Common.{◌≡◌, ◌<◌, ◌≤◌, ℕ, false}
use Rattle.vmv_zone.specs.Zone.{vars_of, NotBottom, bound_of, mark_of}
use Rattle.vmv_step.proofs.entry.set_marks.Given as goal

abbrev pub invariant-loop-i : goal.invariant-loop-i
invariant-loop-i l = record {
  vars : vars_of l.zone ≡ vars_of l.initial.zone;
  not_bottom : NotBottom l.zone;
  bounds : (p q : ℕ) → bound_of l.zone p q ≡ bound_of l.initial.zone p q;
  done : (p : ℕ) → p < l.i → mark_of l.zone p ≡ mark_of l.input p;
  left : (p : ℕ) → l.i ≤ p → mark_of l.zone p ≡ false;
}
