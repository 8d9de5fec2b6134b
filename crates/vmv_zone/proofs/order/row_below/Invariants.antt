use Rattle.std.proofs.Common.{ℕ, ◌<◌, ◌≤ℤ◌}
use Rattle.vmv_zone.specs.Bounds.{bound_at}
use Rattle.vmv_zone.proofs.order.row_below.Given as goal

abbrev pub invariant-loop-j : goal.invariant-loop-j
invariant-loop-j l = (j : ℕ) → j < l.j → bound_at l.bounds l.i j ≤ℤ bound_at l.other l.i j
