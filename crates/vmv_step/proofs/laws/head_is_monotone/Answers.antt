use Rattle.vmv_step.proofs.StepOrder.{head_mono}
use Rattle.vmv_step.proofs.laws.head_is_monotone.Goals as goal

pub returns : goal.returns
returns c = head_mono
