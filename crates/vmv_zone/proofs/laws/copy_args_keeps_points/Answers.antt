use Rattle.vmv_zone.proofs.MoreLaws.{args_point}
use Rattle.vmv_zone.proofs.laws.copy_args_keeps_points.Goals as goal

pub returns : goal.returns
returns c = args_point
