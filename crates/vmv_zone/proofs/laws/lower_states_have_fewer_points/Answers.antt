use Rattle.vmv_zone.proofs.MoreLaws.{below_point}
use Rattle.vmv_zone.proofs.laws.lower_states_have_fewer_points.Goals as goal

pub returns : goal.returns
returns c = below_point
