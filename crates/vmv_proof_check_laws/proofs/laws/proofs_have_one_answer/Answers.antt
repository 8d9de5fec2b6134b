use Rattle.vmv_proof_check_laws.proofs.Refusals.{answer_once}
use Rattle.vmv_proof_check_laws.proofs.laws.proofs_have_one_answer.Goals as goal

pub returns : goal.returns
returns c base revision proof one other is_base is_revision h g =
    answer_once (record { apart = c.accepted_tables_are_not_refused.ensures; once = c.tables_are_refused_in_one_way.ensures }) base revision proof is_revision is_base one other h g
