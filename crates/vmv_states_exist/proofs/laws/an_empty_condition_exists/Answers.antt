use Rattle.vmv_states_exist.proofs.Conds.{nothing, nothing_empty}
use Rattle.vmv_states_exist.proofs.laws.an_empty_condition_exists.Goals as goal

pub returns : goal.returns
returns c = (nothing, nothing_empty)
