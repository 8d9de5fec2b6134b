use Rattle.vmv_step.proofs.StepOrder.{step_normal}
use Rattle.vmv_step.proofs.laws.steps_are_normal.Goals as goal

pub returns : goal.returns
returns c = step_normal
