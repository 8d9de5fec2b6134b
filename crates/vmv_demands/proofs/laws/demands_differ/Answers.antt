use Rattle.vmv_demands.proofs.Apart.{differ}
use Rattle.vmv_demands.proofs.laws.demands_differ.Goals as goal

pub returns : goal.returns
returns c = differ
