use Rattle.vmv_zone.proofs.Rows.{RowLowered}
use Rattle.vmv_zone.proofs.tables.lower_row.Given as goal

abbrev pub invariant-loop-q : goal.invariant-loop-q
invariant-loop-q l = RowLowered l.initial.bounds l.bounds l.j l.p l.through l.q
