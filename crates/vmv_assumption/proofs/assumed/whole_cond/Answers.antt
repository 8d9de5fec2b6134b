use Rattle.vmv_cond.proofs.Same.{same_words}
use Rattle.vmv_assumption.specs.Whole.{whole}
use Rattle.vmv_assumption.proofs.assumed.whole_cond.Goals as goal

pub returns : goal.returns
returns c = same_words _ whole (λ w h. (c.of.ensures w).0 h) (λ w h. (c.of.ensures w).1 h)
