use Rattle.vmv_zone.proofs.MoreLaws.{round_mono}
use Rattle.vmv_zone.proofs.laws.round_up_is_monotone.Goals as goal

pub returns : goal.returns
returns c = round_mono
