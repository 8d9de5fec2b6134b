use Rattle.std.proofs.Common.{arith}
use Rattle.std.proofs.lemmas.Int.{ints, clamps}
use Rattle.vmv_zone.proofs.ends.joined.Goals as goal

pub invariant_of-result : goal.invariant_of-result
invariant_of-result c =
    let al = c.args.a.low in let ah = c.args.a.high in let bl = c.args.b.low in let bh = c.args.b.high in
    record {
      low = record { low = omega (arith, ints, clamps); high = omega (arith, ints, clamps) };
      high = record { low = omega (arith, ints, clamps); high = omega (arith, ints, clamps) };
    }

pub returns-clause-lo : goal.returns-clause-lo
returns-clause-lo c = omega (arith, ints, clamps)

pub returns-clause-hi : goal.returns-clause-hi
returns-clause-hi c = omega (arith, ints, clamps)
