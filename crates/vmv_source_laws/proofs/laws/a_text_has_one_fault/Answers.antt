use Rattle.vmv_source_laws.proofs.OneFault.{fault_once}
use Rattle.vmv_source_laws.proofs.laws.a_text_has_one_fault.Goals as goal

pub returns : goal.returns
returns c = fault_once
