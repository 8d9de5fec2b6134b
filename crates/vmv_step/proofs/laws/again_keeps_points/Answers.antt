use Rattle.vmv_step.proofs.LoopPoints.{again_point}
use Rattle.vmv_step.proofs.laws.again_keeps_points.Goals as goal

pub returns : goal.returns
returns c = again_point
