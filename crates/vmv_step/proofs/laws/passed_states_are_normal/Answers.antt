use Rattle.vmv_step.proofs.Arguments.{pass_normal}
use Rattle.vmv_step.proofs.laws.passed_states_are_normal.Goals as goal

pub returns : goal.returns
returns c = pass_normal
