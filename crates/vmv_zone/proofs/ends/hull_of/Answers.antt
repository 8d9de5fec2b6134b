use Rattle.std.proofs.Common.{arith}
use Rattle.std.proofs.lemmas.Int.{ints, clamps}
use Rattle.vmv_zone.proofs.ends.hull_of.Goals as goal

pub invariant_of-result : goal.invariant_of-result
invariant_of-result c = record {
  low = record { low = omega (arith, ints, clamps); high = omega (arith, ints, clamps) };
  high = record { low = omega (arith, ints, clamps); high = omega (arith, ints, clamps) };
}
