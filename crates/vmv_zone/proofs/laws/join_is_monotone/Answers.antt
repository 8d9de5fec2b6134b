use Rattle.vmv_zone.proofs.MoreLaws.{join_mono}
use Rattle.vmv_zone.proofs.laws.join_is_monotone.Goals as goal

pub returns : goal.returns
returns c = join_mono
