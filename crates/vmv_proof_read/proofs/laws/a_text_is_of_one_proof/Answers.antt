use Rattle.vmv_proof_read.proofs.LineLaws.{clean, loose}
use Rattle.vmv_proof_read.proofs.Once.{decides_proof}
use Rattle.vmv_proof_read.proofs.Places.{one_proof}
use Rattle.vmv_proof_read.proofs.laws.a_text_is_of_one_proof.Goals as goal

pub returns : goal.returns
returns c = one_proof loose clean decides_proof
