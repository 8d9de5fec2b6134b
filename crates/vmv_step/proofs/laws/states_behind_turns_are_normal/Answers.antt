use Rattle.vmv_step.proofs.StepOrder.{again_normal}
use Rattle.vmv_step.proofs.laws.states_behind_turns_are_normal.Goals as goal

pub returns : goal.returns
returns c = again_normal
