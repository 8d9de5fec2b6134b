use Rattle.std.proofs.Common.{arith}
use Rattle.std.proofs.lemmas.Int.{ints}
use Rattle.vmv_step.proofs.Told.{same_leaves}
use Rattle.vmv_step.proofs.fails.sum_fails.Goals as goal

pub returns : goal.returns
returns c = same_leaves _ _ _ _ _ c.leaves_words.ensures (omega (arith, ints)) (omega (arith, ints))
