use Rattle.vmv_states_exist.proofs.Conds.{meet_exists}
use Rattle.vmv_states_exist.proofs.laws.meets_of_conditions_exist.Goals as goal

pub returns : goal.returns
returns c = meet_exists
