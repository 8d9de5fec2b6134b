use Rattle.vmv_cert.specs.declared.row.Reach.{Reach}
use Rattle.vmv_cert.specs.declared.row.Reach.TheVariants.{Bottom}
use Rattle.vmv_proof_text.specs.Parts.{result_part}
use Rattle.vmv_proof_text.specs.Lines.{IsLine}
use Rattle.vmv_proof_text.specs.Loose.{IsLoosely}
use Rattle.vmv_proof_line.proofs.Fields.{untold}
use Rattle.vmv_proof_line.proofs.result.read_result.Goals as goal

pub returns-in-None : goal.returns-in-None
returns-in-None c =
    untold {A = Reach} (λ x. IsLine (result_part x)) (λ x. IsLoosely (result_part x)) c.args.line.now
    c.is_result_loosely.result c.fault_of.result c.fault_of.ensures c.in-None.ensures (λ t. (Bottom, c.is_result_loosely.ensures.0 t)) (λ x h. c.is_result_loosely.ensures.1 h)
