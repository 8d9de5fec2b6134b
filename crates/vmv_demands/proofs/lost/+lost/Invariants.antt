use Rattle.std.proofs.Common.{◌+◌, ◌*◌, drop}
use Rattle.vmv_snapshot.specs.View.{stmt_of, block_of}
use Rattle.vmv_demands.proofs.Sizes.{size, block_size}
use Rattle.vmv_demands.proofs.Holding.{Rests}
use Rattle.vmv_demands.proofs.lost.+lost.Given as goal

abbrev pub invariant-lose_all-loop-stmt : goal.invariant-lose_all-loop-stmt
invariant-lose_all-loop-stmt l = Rests l.sources l.initial.sources (drop l.stmt-index l.block) l.block
