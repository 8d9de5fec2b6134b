use Rattle.vmv_snapshot.proofs.Marks.{RowsTo}
use Rattle.vmv_snapshot.proofs.reach.reach_rows.Given as goal

abbrev pub invariant-loop-i : goal.invariant-loop-i
invariant-loop-i l = RowsTo l.procs l.i l.rows.items
