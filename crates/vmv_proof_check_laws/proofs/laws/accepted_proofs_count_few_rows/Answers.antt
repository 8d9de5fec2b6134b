use Rattle.vmv_proof_check_laws.proofs.Few.{few_counted}
use Rattle.vmv_proof_check_laws.proofs.laws.accepted_proofs_count_few_rows.Goals as goal

pub returns : goal.returns
returns c base revision proof claims is ok = few_counted revision proof.shown is claims ok.counts
