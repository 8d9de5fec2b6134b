use Rattle.std.proofs.Common.{◌≡◌, ◌<◌, ◌≤◌, ℕ, false}
use Rattle.vmv_zone.specs.Bounds.{top_bound}
use Rattle.vmv_zone.specs.Zone.{vars_of, NotBottom, bound_of, mark_of}
use Rattle.vmv_step.specs.Enter.{entered_bound}
use Rattle.vmv_step.proofs.entry.set_bounds.Given as goal

abbrev pub invariant-loop-i : goal.invariant-loop-i
invariant-loop-i l = record {
  vars : vars_of l.zone ≡ vars_of l.initial.zone;
  not_bottom : NotBottom l.zone;
  bounds : (p q : ℕ) → p < l.i → p ≤ vars_of l.initial.zone → q ≤ vars_of l.initial.zone → bound_of l.zone p q ≡ entered_bound l.input (vars_of l.input) l.declared p q;
  left : (p q : ℕ) → l.i ≤ p → p ≤ vars_of l.initial.zone → q ≤ vars_of l.initial.zone → bound_of l.zone p q ≡ top_bound p q;
  marks : (p : ℕ) → mark_of l.zone p ≡ false;
}
