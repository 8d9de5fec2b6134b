use Rattle.vmv_witness_laws.proofs.Reading.{why_once}
use Rattle.vmv_witness_laws.proofs.laws.a_witness_text_is_at_fault_once.Goals as goal

pub returns : goal.returns
returns c = why_once
