use Rattle.vmv_cond.proofs.Same.{same_words}
use Rattle.vmv_cond.proofs.laws.same_words_same_condition.Goals as goal

pub returns : goal.returns
returns c = same_words
