use Rattle.vmv_zone.proofs.MoreLaws.{assign_normal}
use Rattle.vmv_zone.proofs.laws.assign_is_normal.Goals as goal

pub returns : goal.returns
returns c = assign_normal
