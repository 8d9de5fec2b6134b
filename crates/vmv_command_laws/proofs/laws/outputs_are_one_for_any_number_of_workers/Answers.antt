use Rattle.vmv_command_laws.proofs.Outputs.{alike_once}
use Rattle.vmv_command_laws.proofs.laws.outputs_are_one_for_any_number_of_workers.Goals as goal

pub returns : goal.returns
returns c = alike_once c.outputs_are_one.ensures
