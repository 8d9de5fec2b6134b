use Rattle.vmv_zone.proofs.Rows.{RowsClosed}
use Rattle.vmv_zone.proofs.tables.close_through.Given as goal

abbrev pub invariant-loop-p : goal.invariant-loop-p
invariant-loop-p l = RowsClosed l.initial.bounds l.bounds l.vars l.i l.j l.bound l.p
