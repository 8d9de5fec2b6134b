use Rattle.vmv_need.proofs.Existing.{some_necessary}
use Rattle.vmv_need.proofs.laws.necessary_conditions_exist.Goals as goal

pub returns : goal.returns
returns c = some_necessary
