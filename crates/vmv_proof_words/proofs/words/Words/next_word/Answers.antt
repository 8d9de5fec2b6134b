use Rattle.std.proofs.Common.{sym, ◌∙◌, arith}
use Rattle.vmv_proof_words.proofs.Splitting.{next_taken, none_behind}
use Rattle.vmv_proof_words.proofs.words.Words.next_word.Goals as goal

pub returns-in_default-clause-none : goal.returns-in_default-clause-none
returns-in_default-clause-none c = sym c.self.view_is ∙ none_behind c.self.inside.left.now (omega arith)

pub returns-clause-some : goal.returns-clause-some
returns-clause-some c =
    sym c.self.view_is ∙ next_taken c.self.inside.left.now c.word_length-length.result _ (omega arith) c.word_length-length.ensures.words
