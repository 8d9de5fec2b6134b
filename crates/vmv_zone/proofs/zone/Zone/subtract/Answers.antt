use Rattle.std.proofs.Common.{arith}
use Rattle.std.proofs.lemmas.Int.{ints}
use Rattle.vmv_zone.proofs.Values.{difference_of}
use Rattle.vmv_zone.proofs.zone.Zone.subtract.Goals as goal

pub overflow_sub-lo : goal.overflow_sub-lo
overflow_sub-lo c = let l = c.difference-lo.ensures.wide.low in let h = c.difference-lo.ensures.wide.high in omega (arith, ints)

pub span-requires-clause-lo : goal.span-requires-clause-lo
span-requires-clause-lo c = let l = c.difference-lo.ensures.wide.low in let h = c.difference-lo.ensures.wide.high in record { low = omega (arith, ints); high = omega (arith, ints) }

pub span-requires-clause-hi : goal.span-requires-clause-hi
span-requires-clause-hi c = let l = c.difference-hi.ensures.wide.low in let h = c.difference-hi.ensures.wide.high in record { low = omega (arith, ints); high = omega (arith, ints) }

pub overflow_sub-y : goal.overflow_sub-y
overflow_sub-y c = omega (arith, ints)

pub span-requires-2-clause-lo : goal.span-requires-2-clause-lo
span-requires-2-clause-lo c = record { low = omega (arith, ints); high = omega (arith, ints) }

pub span-requires-2-clause-hi : goal.span-requires-2-clause-hi
span-requires-2-clause-hi c = record { low = omega (arith, ints); high = omega (arith, ints) }

pub returns : goal.returns
returns c = difference_of c.args.self.now c.args.fresh c.args.left c.args.right _ _ _ _ c.span.ensures c.span-2.ensures
    (let l = c.difference-lo.ensures.wide.low in let h = c.difference-lo.ensures.wide.high in omega (arith, ints, c.difference-lo.ensures.value))
    (omega (arith, ints, c.difference-hi.ensures.value))
    (omega (arith, ints, c.ends-y.ensures.hi)) (omega (arith, ints, c.ends-y.ensures.lo))
