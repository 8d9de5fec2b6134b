use Rattle.vmv_zone.proofs.MoreLaws.{range_mono}
use Rattle.vmv_zone.proofs.laws.range_is_monotone.Goals as goal

pub returns : goal.returns
returns c = range_mono
