use Rattle.vmv_proof_read.proofs.Written.{proof_written}
use Rattle.vmv_proof_read.proofs.Shortest.{proof_short}
use Rattle.vmv_proof_read.proofs.laws.written_proofs_are_read.Goals as goal

pub returns-clause-told : goal.returns-clause-told
returns-clause-told c = proof_written

pub returns-clause-short : goal.returns-clause-short
returns-clause-short c = proof_short
