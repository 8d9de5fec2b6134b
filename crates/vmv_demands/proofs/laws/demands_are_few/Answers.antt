use Rattle.vmv_demands.proofs.Names.{few}
use Rattle.vmv_demands.proofs.laws.demands_are_few.Goals as goal

pub returns : goal.returns
returns c = few
