use Rattle.vmv_proof_check.proofs.Correct.{accepted_correct}
use Rattle.vmv_proof_check.proofs.laws.accepted_proofs_are_sound.Goals as goal

pub returns : goal.returns
returns c = accepted_correct
