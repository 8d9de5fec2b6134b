use Rattle.vmv_states_exist.proofs.Dropping.{assignment_exists}
use Rattle.vmv_states_exist.proofs.laws.assignments_exist.Goals as goal

pub returns : goal.returns
returns c = assignment_exists
