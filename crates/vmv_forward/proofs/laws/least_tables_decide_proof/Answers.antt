use Rattle.vmv_forward.proofs.FirstRows.{decides_proof}
use Rattle.vmv_forward.proofs.laws.least_tables_decide_proof.Goals as goal

pub returns : goal.returns
returns c = λ program number params ends assumed first rest site is entry least. decides_proof program number params ends assumed first rest site entry least
