use Rattle.vmv_need.proofs.Lower.{necessary_once}
use Rattle.vmv_need.proofs.laws.necessary_conditions_are_unique.Goals as goal

pub returns : goal.returns
returns c = necessary_once
