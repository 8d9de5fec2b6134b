use Rattle.vmv_source.proofs.NoFault.{no_fault}
use Rattle.vmv_source.proofs.laws.valid_texts_have_no_fault.Goals as goal

pub returns : goal.returns
returns c = no_fault
