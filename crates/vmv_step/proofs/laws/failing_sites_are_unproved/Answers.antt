use Rattle.vmv_step.proofs.StepPoints.{failing_point}
use Rattle.vmv_step.proofs.laws.failing_sites_are_unproved.Goals as goal

pub returns : goal.returns
returns c = failing_point
