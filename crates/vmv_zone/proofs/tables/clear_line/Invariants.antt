use Rattle.std.proofs.Common.{pos}
use Rattle.vmv_zone.specs.Lines.{LineSet}
use Rattle.vmv_zone.proofs.tables.clear_line.Given as goal

abbrev pub invariant-loop-k : goal.invariant-loop-k
invariant-loop-k l = LineSet (λ i j. pos 0) l.initial.bounds l.bounds l.last l.k
