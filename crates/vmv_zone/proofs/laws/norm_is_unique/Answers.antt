use Rattle.vmv_zone.proofs.Equal.{norm_once}
use Rattle.vmv_zone.proofs.laws.norm_is_unique.Goals as goal

pub returns : goal.returns
returns c = norm_once
