use Rattle.vmv_states_exist.proofs.Operands.{range_exists}
use Rattle.vmv_states_exist.proofs.laws.ranges_exist.Goals as goal

pub returns : goal.returns
returns c = range_exists
