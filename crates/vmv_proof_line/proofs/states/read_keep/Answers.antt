use Rattle.vmv_proof_text.specs.Parts.{keep_part}
use Rattle.vmv_proof_text.specs.Lines.{IsLine}
use Rattle.vmv_proof_text.specs.Loose.{IsLoosely}
use Rattle.vmv_zone.specs.declared.zone.Zone.{Zone}
use Rattle.vmv_proof_line.proofs.Fields.{untold}
use Rattle.vmv_proof_line.proofs.StateTold.{any_state}
use Rattle.vmv_proof_line.proofs.states.read_keep.Goals as goal

pub returns-in-None : goal.returns-in-None
returns-in-None c =
    untold {A = Zone} (λ z. IsLine (keep_part z)) (λ z. IsLoosely (keep_part z)) c.args.line.now c.is_state_loosely.result c.fault_of.result c.fault_of.ensures c.in-None.ensures
    (λ t. (any_state, c.is_state_loosely.ensures.0 t)) (λ z h. c.is_state_loosely.ensures.1 h)
