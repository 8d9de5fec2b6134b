use Rattle.vmv_states_exist.proofs.Freed.{freed_exists}
use Rattle.vmv_states_exist.proofs.laws.freed_states_exist.Goals as goal

pub returns : goal.returns
returns c = freed_exists
