use Rattle.vmv_zone.proofs.AssignPoints.{assign_point}
use Rattle.vmv_zone.proofs.laws.assign_keeps_points.Goals as goal

pub returns : goal.returns
returns c = assign_point
