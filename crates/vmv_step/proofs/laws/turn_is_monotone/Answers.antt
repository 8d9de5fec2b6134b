use Rattle.vmv_step.proofs.StepOrder.{turn_mono}
use Rattle.vmv_step.proofs.laws.turn_is_monotone.Goals as goal

pub returns : goal.returns
returns c = turn_mono
