use Rattle.vmv_step.proofs.EnterPoints.{enter_mono}
use Rattle.vmv_step.proofs.laws.enter_is_monotone.Goals as goal

pub returns : goal.returns
returns c = enter_mono
