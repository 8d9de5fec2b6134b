use Rattle.vmv_zone.proofs.WordOrder.{args_normal}
use Rattle.vmv_zone.proofs.laws.copy_args_is_normal.Goals as goal

pub returns : goal.returns
returns c = args_normal
