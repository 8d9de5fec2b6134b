use Rattle.vmv_states_exist.proofs.Joins.{join_normal}
use Rattle.vmv_states_exist.proofs.laws.joins_of_normal_states_are_normal.Goals as goal

pub returns : goal.returns
returns c = join_normal
