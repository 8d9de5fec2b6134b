use Rattle.vmv_step.proofs.StepOrder.{step_mono}
use Rattle.vmv_step.proofs.laws.step_is_monotone.Goals as goal

pub returns : goal.returns
returns c = step_mono
