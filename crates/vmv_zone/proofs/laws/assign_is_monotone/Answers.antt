use Rattle.vmv_zone.proofs.AssignOrder.{assign_mono}
use Rattle.vmv_zone.proofs.laws.assign_is_monotone.Goals as goal

pub returns : goal.returns
returns c = assign_mono
