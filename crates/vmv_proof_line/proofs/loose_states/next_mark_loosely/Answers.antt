use Rattle.vmv_proof_line.proofs.loose_states.next_mark_loosely.Goals as goal

pub returns-in_default-clause-none : goal.returns-in_default-clause-none
returns-in_default-clause-none c = λ m rest h e. c.in_default.ensures.none m rest h.0.0 e
