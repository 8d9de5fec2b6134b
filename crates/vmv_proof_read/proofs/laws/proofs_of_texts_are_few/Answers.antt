use Rattle.vmv_proof_read.proofs.Few.{few_told}
use Rattle.vmv_proof_read.proofs.laws.proofs_of_texts_are_few.Goals as goal

pub returns : goal.returns
returns c = λ text p t. few_told p t.lines t.told
