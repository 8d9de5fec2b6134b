use Rattle.std.proofs.Common.{[], ℤ, List}
use Rattle.vmv_proof_text.specs.Parts.{box_part}
use Rattle.vmv_proof_text.specs.Lines.{IsLine}
use Rattle.vmv_proof_text.specs.Loose.{IsLoosely}
use Rattle.vmv_proof_line.proofs.Fields.{untold}
use Rattle.vmv_proof_line.proofs.ranges.read_box.Goals as goal

pub returns-in-None : goal.returns-in-None
returns-in-None c =
    untold {A = List (ℤ × ℤ)} (λ x. IsLine (box_part x)) (λ x. IsLoosely (box_part x)) c.args.line.now
    c.is_box_loosely.result c.fault_of.result c.fault_of.ensures c.in-None.ensures (λ t. ([], c.is_box_loosely.ensures.0 t)) (λ x h. c.is_box_loosely.ensures.1 h)
