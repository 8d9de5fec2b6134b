use Rattle.vmv_zone.specs.Bounds.{extended_bound}
use Rattle.vmv_zone.specs.Lines.{LineSet}
use Rattle.vmv_zone.proofs.tables.extend_bounds.Given as goal

abbrev pub invariant-loop-k : goal.invariant-loop-k
invariant-loop-k l = LineSet (extended_bound l.initial.bounds l.last) l.initial.bounds l.bounds l.last l.k
