use Rattle.vmv_zone.proofs.MoreLaws.{args_mono}
use Rattle.vmv_zone.proofs.laws.copy_args_is_monotone.Goals as goal

pub returns : goal.returns
returns c = args_mono
