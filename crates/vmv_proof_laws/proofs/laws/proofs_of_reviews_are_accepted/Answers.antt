use Rattle.vmv_proof_laws.proofs.Accepting.{accepted}
use Rattle.vmv_proof_laws.proofs.laws.proofs_of_reviews_are_accepted.Goals as goal

pub returns : goal.returns
returns c =
    accepted c.least_tables_have_rows.ensures c.least_tables_decide_proof.ensures c.least_tables_decide_death.ensures c.least_tables_begin_above_their_boxes.ensures c.one_thing_is_necessary.ensures
