use Rattle.vmv_states_exist.proofs.Kept.{guard_exists}
use Rattle.vmv_states_exist.proofs.laws.guards_exist.Goals as goal

pub returns : goal.returns
returns c = guard_exists
