use Rattle.vmv_demands.proofs.Names.{on_outside_names}
use Rattle.vmv_demands.proofs.laws.demands_are_on_outside_names.Goals as goal

pub returns : goal.returns
returns c = on_outside_names
