use Rattle.vmv_witness.proofs.OneText.{one_witness}
use Rattle.vmv_witness.proofs.laws.a_text_is_of_one_witness.Goals as goal

pub returns : goal.returns
returns c = one_witness
