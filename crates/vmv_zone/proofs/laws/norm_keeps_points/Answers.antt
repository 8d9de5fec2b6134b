use Rattle.vmv_zone.proofs.GuardLaws.{norm_point}
use Rattle.vmv_zone.proofs.laws.norm_keeps_points.Goals as goal

pub returns : goal.returns
returns c = norm_point
