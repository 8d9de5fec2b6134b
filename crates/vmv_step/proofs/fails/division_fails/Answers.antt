use Rattle.std.proofs.Common.{arith, FitsSigned}
use Rattle.std.specs.Int.{w64}
use Rattle.std.proofs.lemmas.Int.{ints}
use Rattle.vmv_zone.specs.Operand.{low, up}
use Rattle.vmv_step.proofs.Told.{quotient_only}
use Rattle.vmv_step.proofs.fails.division_fails.Goals as goal

pub returns-else-not-nonzero-clause-quotient : goal.returns-else-not-nonzero-clause-quotient
returns-else-not-nonzero-clause-quotient c =
    let el = c.ends_of.ensures.lo in
    let eh = c.ends_of.ensures.hi in
    let fl : FitsSigned w64 (low c.args.before.now c.args.left) = omega (arith, ints) in
    let fu : FitsSigned w64 (up c.args.before.now c.args.left) = omega (arith, ints) in
    quotient_only c.args.before.now c.args.left c.args.right c.least_by_minus_one-edge.result c.nonzero.result c.ends_of.result.lo c.ends_of-2.result.lo c.ends_of-2.result.hi
    c.least_by_minus_one-edge.ensures el c.ends_of-2.ensures.lo c.ends_of-2.ensures.hi c.if-not-nonzero.false c.nonzero.ensures
    (c.requires.normal c.requires.not_bottom) c.requires.left c.requires.right fl fu
