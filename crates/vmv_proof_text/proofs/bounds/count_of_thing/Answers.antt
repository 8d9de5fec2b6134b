use Rattle.std.proofs.Common.{arith}
use Rattle.vmv_proof_text.proofs.Counting.{thing_more}
use Rattle.vmv_proof_text.proofs.bounds.count_of_thing.Goals as goal

pub loop-j-preserved : goal.loop-j-preserved
loop-j-preserved c = (
  thing_more c.args.zone.now c.args.i c.loop-j.j c.loop-j.count c.count_of_bound-count.result c.loop-j.invariant.0 c.count_of_bound-count.ensures.count,
  omega (arith, c.loop-j.invariant.1, c.count_of_bound-count.ensures.few),
)
