use Rattle.std.proofs.Common.{take}
use Rattle.vmv_enough.specs.Tried.{ArePicks}
use Rattle.vmv_enough.proofs.attempt.words.Given as goal

abbrev pub invariant-loop-range : goal.invariant-loop-range
invariant-loop-range l = ArePicks l.mode (take l.range-index l.ranges) l.words.items
