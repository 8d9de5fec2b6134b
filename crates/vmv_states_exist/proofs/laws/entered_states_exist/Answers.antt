use Rattle.vmv_states_exist.proofs.Starts.{entered_exists}
use Rattle.vmv_states_exist.proofs.laws.entered_states_exist.Goals as goal

pub returns : goal.returns
returns c = entered_exists
