use Rattle.vmv_zone.proofs.MoreLaws.{range_point}
use Rattle.vmv_zone.proofs.laws.range_keeps_points.Goals as goal

pub returns : goal.returns
returns c = range_point
