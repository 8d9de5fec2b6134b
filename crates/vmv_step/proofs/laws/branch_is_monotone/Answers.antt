use Rattle.vmv_step.proofs.StepOrder.{branch_mono}
use Rattle.vmv_step.proofs.laws.branch_is_monotone.Goals as goal

pub returns : goal.returns
returns c = branch_mono
