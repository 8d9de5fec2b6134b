use Rattle.vmv_zone.specs.Bounds.{top_bound}
use Rattle.vmv_zone.specs.Lines.{LineSet}
use Rattle.vmv_zone.proofs.tables.free_bounds.Given as goal

abbrev pub invariant-loop-k : goal.invariant-loop-k
invariant-loop-k l = LineSet top_bound l.initial.bounds l.bounds l.x l.k
