use Rattle.vmv_step.proofs.StepOrder.{head_normal}
use Rattle.vmv_step.proofs.laws.heads_are_normal.Goals as goal

pub returns : goal.returns
returns c = head_normal
