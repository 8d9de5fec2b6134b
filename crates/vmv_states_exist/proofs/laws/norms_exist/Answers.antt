use Rattle.vmv_states_exist.proofs.Greatest.{norm_exists}
use Rattle.vmv_states_exist.proofs.laws.norms_exist.Goals as goal

pub returns : goal.returns
returns c = norm_exists
