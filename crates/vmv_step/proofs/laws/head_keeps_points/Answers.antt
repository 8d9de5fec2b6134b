use Rattle.vmv_step.proofs.LoopPoints.{head_point}
use Rattle.vmv_step.proofs.laws.head_keeps_points.Goals as goal

pub returns : goal.returns
returns c = head_point
