use Rattle.vmv_step.proofs.EnterPoints.{enter_normal}
use Rattle.vmv_step.proofs.laws.entered_states_are_normal.Goals as goal

pub returns : goal.returns
returns c = enter_normal
