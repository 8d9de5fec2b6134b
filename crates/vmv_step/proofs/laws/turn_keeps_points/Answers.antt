use Rattle.vmv_step.proofs.LoopPoints.{turn_point}
use Rattle.vmv_step.proofs.laws.turn_keeps_points.Goals as goal

pub returns : goal.returns
returns c = turn_point
