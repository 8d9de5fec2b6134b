use Rattle.std.proofs.Common.{sym, ◌∙◌, ap, arith, length}
use Rattle.std.proofs.lemmas.Bool.{eqb-true, eq-eqb}
use Rattle.vmv_proof_words.proofs.Splitting.{none_left, none_behind}
use Rattle.vmv_proof_words.proofs.words.Words.is_done.Goals as goal

pub returns : goal.returns
returns c = (
  λ done. sym c.self.view_is ∙ none_behind c.self.inside.left.now (omega (arith, eqb-true _ 0 (sym c.is_empty.ensures ∙ done))),
  λ none. c.is_empty.ensures ∙ eq-eqb _ 0 (ap length (none_left c.self.inside.left.now (c.self.view_is ∙ none))),
)
