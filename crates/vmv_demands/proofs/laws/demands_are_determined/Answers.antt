use Rattle.vmv_demands.specs.Demands.{first_wanted}
use Rattle.vmv_demands.proofs.Names.{same_demands}
use Rattle.vmv_demands.proofs.laws.demands_are_determined.Goals as goal

pub returns : goal.returns
returns c = λ s n demands others h k. same_demands (first_wanted s n) demands others h k
