use Rattle.std.proofs.Common.{arith}
use Rattle.std.proofs.lemmas.Int.{ints, clamps}
use Rattle.vmv_zone.proofs.ends.greatest_remainder.Goals as goal

pub returns-clause-value : goal.returns-clause-value
returns-clause-value c = let a = c.min.ensures.value in let b = c.max.ensures.value in omega (arith, ints, clamps)

pub returns-clause-wide : goal.returns-clause-wide
returns-clause-wide c = let a = c.min.ensures.value in let b = c.max.ensures.value in record { low = omega (arith, ints, clamps); high = omega (arith, ints, clamps) }
