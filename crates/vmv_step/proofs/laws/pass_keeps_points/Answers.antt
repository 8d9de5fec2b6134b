use Rattle.vmv_step.proofs.LoopPoints.{pass_point}
use Rattle.vmv_step.proofs.laws.pass_keeps_points.Goals as goal

pub returns : goal.returns
returns c = pass_point
