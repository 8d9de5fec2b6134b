use Rattle.vmv_states_exist.proofs.Joins.{joins}
use Rattle.vmv_states_exist.proofs.laws.joins_exist.Goals as goal

pub returns : goal.returns
returns c a b e = let j = joins a b e in (j.state, j.join)
