use Rattle.std.proofs.Common.{ℕ, ◌<◌, ◌≤◌, ◌≤ℤ◌}
use Rattle.vmv_zone.specs.Bounds.{bound_at}
use Rattle.vmv_zone.proofs.order.bounds_below.Given as goal

abbrev pub invariant-loop-i : goal.invariant-loop-i
invariant-loop-i l = (i : ℕ) → i < l.i → (j : ℕ) → j ≤ l.vars → bound_at l.bounds i j ≤ℤ bound_at l.other i j
