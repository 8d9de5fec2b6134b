use Rattle.vmv_step.proofs.LoopPoints.{left_agrees}
use Rattle.vmv_step.proofs.laws.left_slots_agree.Goals as goal

pub returns : goal.returns
returns c = left_agrees
