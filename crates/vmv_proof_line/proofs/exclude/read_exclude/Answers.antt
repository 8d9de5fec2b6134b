use Rattle.std.proofs.Common.{[]}
use Rattle.vmv_cond.specs.declared.cond.Piece.TheVariants.{Zero}
use Rattle.vmv_proof_text.specs.Parts.{exclude_part}
use Rattle.vmv_proof_text.specs.Lines.{IsLine}
use Rattle.vmv_proof_text.specs.Loose.{IsLoosely}
use Rattle.vmv_proof_line.specs.declared.exclude.ExcludeHead.{ExcludeHead}
use Rattle.vmv_proof_line.proofs.Fields.{untold}
use Rattle.vmv_proof_line.proofs.exclude.read_exclude.Goals as goal

pub returns-in-None : goal.returns-in-None
returns-in-None c =
    untold {A = ExcludeHead} (λ x. IsLine (exclude_part x.entry x.name x.piece x.under)) (λ x. IsLoosely (exclude_part x.entry x.name x.piece x.under)) c.args.line.now
    c.is_exclude_loosely.result c.fault_of.result c.fault_of.ensures c.in-None.ensures
    (λ t. (record { entry = []; name = []; piece = Zero; under = 0 }, c.is_exclude_loosely.ensures.0 t)) (λ head h. c.is_exclude_loosely.ensures.1 h)
