use Rattle.vmv_witness_laws.proofs.Reading.{witness_once}
use Rattle.vmv_witness_laws.proofs.laws.a_witness_text_has_one_witness.Goals as goal

pub returns : goal.returns
returns c = witness_once
