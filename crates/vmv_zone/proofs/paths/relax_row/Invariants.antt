use Rattle.std.proofs.Common.{◌≤ℤ◌}
use Rattle.vmv_zone.specs.Bounds.{IsClosed}
use Rattle.vmv_zone.specs.Change.{Settles}
use Rattle.vmv_zone.proofs.Rows.{RowLowered}
use Rattle.vmv_zone.proofs.paths.relax_row.Given as goal

abbrev pub invariant-loop-q : goal.invariant-loop-q
invariant-loop-q l = record {
  row : RowLowered l.initial.bounds l.bounds l.j l.p l.through l.q;
  settles : Settles (λ n. IsClosed n l.vars × (n l.p l.j ≤ℤ l.through)) l.vars l.initial.bounds l.bounds;
}
