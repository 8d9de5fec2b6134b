use Rattle.vmv_states_exist.proofs.Operands.{args_exist}
use Rattle.vmv_states_exist.proofs.laws.argument_states_exist.Goals as goal

pub returns : goal.returns
returns c = args_exist
