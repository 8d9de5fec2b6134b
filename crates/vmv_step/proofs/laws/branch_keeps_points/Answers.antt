use Rattle.vmv_step.proofs.StepPoints.{branch_point}
use Rattle.vmv_step.proofs.laws.branch_keeps_points.Goals as goal

pub returns : goal.returns
returns c = branch_point
