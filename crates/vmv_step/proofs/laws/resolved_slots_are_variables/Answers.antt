use Rattle.vmv_step.proofs.StepPoints.{simple_inside}
use Rattle.vmv_step.proofs.laws.resolved_slots_are_variables.Goals as goal

pub returns : goal.returns
returns c = simple_inside
