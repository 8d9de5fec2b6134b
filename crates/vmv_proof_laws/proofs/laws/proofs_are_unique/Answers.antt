use Rattle.vmv_proof_laws.proofs.Unique.{proof_once}
use Rattle.vmv_proof_laws.proofs.laws.proofs_are_unique.Goals as goal

pub returns : goal.returns
returns c = proof_once c.least_tables_are_unique.ensures
