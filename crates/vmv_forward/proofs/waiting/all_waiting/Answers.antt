use Rattle.std.proofs.Common.{◌-◌, arith}
use Rattle.vmv_forward.proofs.Listed.{filled_more}
use Rattle.vmv_forward.proofs.waiting.all_waiting.Goals as goal

pub loop-number-preserved : goal.loop-number-preserved
loop-number-preserved c =
    let t = c.loop-number-test.true in
    filled_more c.args.count c.loop-number.number (c.loop-number.number - 1) c.loop-number.waiting c.put.new.waiting (omega arith) c.loop-number.invariant c.put.ensures.more c.put.ensures.there
