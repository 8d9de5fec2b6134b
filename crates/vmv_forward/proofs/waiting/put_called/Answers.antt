use Rattle.vmv_forward.proofs.Listed.{put_next, put_end, got}
use Rattle.vmv_forward.proofs.waiting.put_called.Goals as goal

pub loop-c-preserved : goal.loop-c-preserved
loop-c-preserved c =
    put_next c.args.callees.now c.args.risen.now c.args.waiting.now c.loop-c.waiting c.put_set.new.waiting c.loop-c.c _ (got c.args.callees.now c.loop-c.c 0 c.loop-c-test.true) c.loop-c.invariant c.put_set.ensures.more c.put_set.ensures.called

pub returns-clause-called : goal.returns-clause-called
returns-clause-called c = put_end c.args.callees.now c.args.risen.now c.args.waiting.now c.loop-c.waiting c.loop-c.c c.loop-c-test.false c.loop-c.invariant
