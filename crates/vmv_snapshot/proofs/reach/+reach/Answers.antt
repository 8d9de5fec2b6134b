use Rattle.vmv_snapshot.proofs.Marks.{reached_if, remains_start, remains_more, remains_end}
use Rattle.vmv_snapshot.proofs.reach.+reach.Goals as goal

pub stmt_reach-returns-in-If : goal.stmt_reach-returns-in-If
stmt_reach-returns-in-If t c =
    reached_if c.args.rows.now c.args.stmt.now c.in-If.test c.in-If.first c.in-If.second c.as_slice.result.now c.as_slice-in-If.result.now c.block_reach.result c.block_reach-in-If.result c.in-If.is
    c.as_slice.ensures c.as_slice-in-If.ensures c.block_reach.ensures c.block_reach-in-If.ensures

pub block_reach-loop-stmt-init : goal.block_reach-loop-stmt-init
block_reach-loop-stmt-init t c = remains_start c.args.rows.now c.args.block.now

pub block_reach-loop-stmt-preserved : goal.block_reach-loop-stmt-preserved
block_reach-loop-stmt-preserved t c =
    remains_more c.args.rows.now c.args.block.now c.loop-stmt.stmt-index c.loop-stmt.all c.stmt_reach-all.result c.stmt-item.result c.loop-stmt-test.true c.stmt-item.is c.loop-stmt.invariant c.stmt_reach-all.ensures

pub block_reach-returns : goal.block_reach-returns
block_reach-returns t c = remains_end c.args.rows.now c.args.block.now c.loop-stmt.stmt-index c.loop-stmt.all c.loop-stmt-test.false c.loop-stmt.invariant
