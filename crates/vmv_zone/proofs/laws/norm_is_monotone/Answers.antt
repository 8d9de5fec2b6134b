use Rattle.vmv_zone.proofs.States.{norm_mono}
use Rattle.vmv_zone.proofs.laws.norm_is_monotone.Goals as goal

pub returns : goal.returns
returns c = norm_mono
