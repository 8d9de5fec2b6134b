use Rattle.vmv_step.proofs.LoopPoints.{leave_point}
use Rattle.vmv_step.proofs.laws.leave_keeps_points.Goals as goal

pub returns : goal.returns
returns c = leave_point
