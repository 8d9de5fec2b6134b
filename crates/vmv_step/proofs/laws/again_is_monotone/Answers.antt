use Rattle.vmv_step.proofs.StepOrder.{again_mono}
use Rattle.vmv_step.proofs.laws.again_is_monotone.Goals as goal

pub returns : goal.returns
returns c = again_mono
