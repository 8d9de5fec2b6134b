use Rattle.std.proofs.Common.{◌≡◌, ◌≢◌, ◌<◌, ◌≤◌, ℕ}
use Rattle.vmv_zone.specs.Bounds.{top_bound}
use Rattle.vmv_zone.specs.Zone.{vars_of, NotBottom, bound_of, mark_of}
use Rattle.vmv_step.specs.Enter.{entered_bound}
use Rattle.vmv_step.proofs.entry.set_row.Given as goal

abbrev pub invariant-loop-j : goal.invariant-loop-j
invariant-loop-j l = record {
  vars : vars_of l.zone ≡ vars_of l.initial.zone;
  not_bottom : NotBottom l.zone;
  row : (j : ℕ) → j < l.j → bound_of l.zone l.i j ≡ entered_bound l.input (vars_of l.input) l.declared l.i j;
  left : (j : ℕ) → l.j ≤ j → j ≤ vars_of l.initial.zone → bound_of l.zone l.i j ≡ top_bound l.i j;
  others : (p q : ℕ) → p ≤ vars_of l.initial.zone → q ≤ vars_of l.initial.zone → p ≢ l.i → bound_of l.zone p q ≡ bound_of l.initial.zone p q;
  marks : (p : ℕ) → mark_of l.zone p ≡ mark_of l.initial.zone p;
}
