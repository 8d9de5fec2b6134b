use Rattle.vmv_text.proofs.OnePlace.{has_fault_once}
use Rattle.vmv_text.proofs.laws.one_fault.Goals as goal

pub returns : goal.returns
returns c = has_fault_once
