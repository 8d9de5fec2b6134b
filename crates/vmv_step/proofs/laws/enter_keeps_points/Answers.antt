use Rattle.vmv_step.proofs.EnterPoints.{enter_point}
use Rattle.vmv_step.proofs.laws.enter_keeps_points.Goals as goal

pub returns : goal.returns
returns c = enter_point
