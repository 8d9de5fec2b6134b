use Rattle.vmv_step.proofs.StepPoints.{step_point}
use Rattle.vmv_step.proofs.laws.step_keeps_points.Goals as goal

pub returns : goal.returns
returns c = step_point
