use Rattle.vmv_witness_laws.proofs.Reading.{no_why}
use Rattle.vmv_witness_laws.proofs.laws.a_witness_text_has_no_fault.Goals as goal

pub returns : goal.returns
returns c = no_why
