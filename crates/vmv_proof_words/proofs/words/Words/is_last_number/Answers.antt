use Rattle.std.proofs.Common.{[]}
use Rattle.std.proofs.lemmas.Bool.{false≢true}
use Rattle.vmv_proof_words.proofs.words.Words.is_last_number.Goals as goal

pub returns-in_default : goal.returns-in_default
returns-in_default c = (λ t. absurd (false≢true t), λ one. absurd (c.in_default.ensures.none one.0 [] one.1 one.2))
