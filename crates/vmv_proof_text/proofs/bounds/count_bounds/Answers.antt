use Rattle.std.proofs.Common.{arith}
use Rattle.vmv_proof_text.proofs.Counting.{things_more}
use Rattle.vmv_proof_text.proofs.bounds.count_bounds.Goals as goal

pub loop-i-preserved : goal.loop-i-preserved
loop-i-preserved c = (
  things_more c.args.zone.now c.loop-i.i c.loop-i.count c.count_of_thing-count.result c.loop-i.invariant.0 c.count_of_thing-count.ensures.count,
  omega (arith, c.loop-i.invariant.1, c.count_of_thing-count.ensures.few, c.args.zone.now.few),
)
