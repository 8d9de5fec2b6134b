use Rattle.std.proofs.Common.{◌∷◌, []}
use Rattle.std.proofs.lemmas.Bool.{false≢true}
use Rattle.vmv_proof_line.proofs.Fields.{loose_words, count_loosely}
use Rattle.vmv_proof_line.proofs.counts.is_count_loosely.Goals as goal

pub returns-in_default : goal.returns-in_default
returns-in_default c = (
  λ t. absurd (false≢true t),
  λ h. absurd (c.in_default.ensures.none (h.0 ∷ []) (loose_words c.args.word.now c.args.line.now h.0 c.requires h.1 h.2)),
)

pub returns : goal.returns
returns c = count_loosely c.args.word.now c.args.line.now c.in-Some.words c.is_last_number.result c.requires c.in-Some.ensures.some c.is_last_number.ensures
