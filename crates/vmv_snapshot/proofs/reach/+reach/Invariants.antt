use Rattle.vmv_snapshot.proofs.Marks.{Remains}
use Rattle.vmv_snapshot.proofs.reach.+reach.Given as goal

abbrev pub invariant-block_reach-loop-stmt : goal.invariant-block_reach-loop-stmt
invariant-block_reach-loop-stmt l = Remains l.rows l.block l.stmt-index l.all
