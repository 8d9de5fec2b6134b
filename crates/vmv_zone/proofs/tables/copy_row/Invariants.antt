use Rattle.vmv_zone.specs.Lines.{RowCopied}
use Rattle.vmv_zone.proofs.tables.copy_row.Given as goal

abbrev pub invariant-loop-k : goal.invariant-loop-k
invariant-loop-k l = RowCopied l.initial.bounds l.bounds l.to l.last l.k
