use Rattle.vmv_zone.specs.Lines.{ColumnCopied}
use Rattle.vmv_zone.proofs.tables.copy_column.Given as goal

abbrev pub invariant-loop-k : goal.invariant-loop-k
invariant-loop-k l = ColumnCopied l.initial.bounds l.bounds l.to l.last l.k
