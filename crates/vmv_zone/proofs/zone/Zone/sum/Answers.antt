use Rattle.std.proofs.Common.{arith}
use Rattle.std.proofs.lemmas.Int.{ints}
use Rattle.vmv_zone.proofs.Values.{sum_of}
use Rattle.vmv_zone.proofs.zone.Zone.sum.Goals as goal

pub span-requires-clause-lo : goal.span-requires-clause-lo
span-requires-clause-lo c = record { low = omega (arith, ints); high = omega (arith, ints) }

pub span-requires-clause-hi : goal.span-requires-clause-hi
span-requires-clause-hi c = record { low = omega (arith, ints); high = omega (arith, ints) }

pub span-requires-3-clause-closed : goal.span-requires-3-clause-closed
span-requires-3-clause-closed c = c.span-2.ensures.closed (c.span.ensures.closed c.requires.closed)

pub returns : goal.returns
returns c = sum_of c.args.self.now c.args.fresh c.args.left c.args.right _ _ _ _ _ _ c.span.ensures c.span-2.ensures c.span-3.ensures
    (omega (arith, ints, c.ends-x.ensures.lo, c.ends-y.ensures.lo)) (omega (arith, ints, c.ends-x.ensures.hi, c.ends-y.ensures.hi))
    (omega (arith, ints, c.ends-y.ensures.lo)) (omega (arith, ints, c.ends-y.ensures.hi)) (omega (arith, ints, c.ends-x.ensures.lo)) (omega (arith, ints, c.ends-x.ensures.hi))
