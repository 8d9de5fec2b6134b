use Rattle.vmv_step.proofs.StepOrder.{leave_mono}
use Rattle.vmv_step.proofs.laws.leave_is_monotone.Goals as goal

pub returns : goal.returns
returns c = leave_mono
