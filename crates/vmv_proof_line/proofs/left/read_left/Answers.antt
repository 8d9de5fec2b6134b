use Rattle.std.proofs.Common.{List, [], subst}
use Rattle.vmv_tree.specs.declared.site.NamedSite.{NamedSite}
use Rattle.vmv_proof_words.specs.Taking.{Tells}
use Rattle.vmv_proof_text.specs.Parts.{left_part}
use Rattle.vmv_proof_text.specs.Lines.{IsLine}
use Rattle.vmv_proof_text.specs.Loose.{IsLoosely}
use Rattle.vmv_proof_line.proofs.Fields.{untold}
use Rattle.vmv_proof_line.proofs.left.read_left.Goals as goal

pub returns-in-Ok-None : goal.returns-in-Ok-None
returns-in-Ok-None c =
    untold {A = List NamedSite} (λ x. IsLine (left_part x)) (λ x. IsLoosely (left_part x)) c.args.line.now
    c.is_left_loosely.result c.fault_of.result c.fault_of.ensures (subst (Tells {A = List NamedSite} (λ x. IsLine (left_part x)) c.args.line.now) c.in-Ok-None.field-0-is c.in-Ok-None.ensures)
    (λ t. ([], c.is_left_loosely.ensures.0 t)) (λ x h. c.is_left_loosely.ensures.1 h)
