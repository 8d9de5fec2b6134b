use Rattle.std.proofs.Common.{arith, to_z, of_z}
use Rattle.std.specs.Int.{w64}
use Rattle.std.proofs.lemmas.Int.{ints}
use Rattle.vmv_zone.proofs.Values.{remainder_of, least_is, most_is}
use Rattle.vmv_zone.proofs.zone.Zone.reduce.Goals as goal

pub returns : goal.returns
returns c = remainder_of c.args.self.now c.args.fresh c.args.left c.args.right _ _ c.make_nonzero.ensures c.span.ensures
    (least_is c.args.self.now c.args.left c.args.right c.least_remainder-lo.result _ c.ends-x.result.lo (to_z w64 (of_z w64 c.ends-x.result.lo)) c.ends-y.result.lo c.ends-y.result.hi c.size-size.result
    c.least_remainder-lo.ensures.value c.size-size.ensures c.ends-x.ensures.lo c.ends-y.ensures.lo c.ends-y.ensures.hi (omega (arith, ints)) (omega (arith, ints)))
    (most_is c.args.self.now c.args.left c.args.right c.greatest_remainder-hi.result _ c.ends-x.result.hi (to_z w64 (of_z w64 c.ends-x.result.hi)) c.ends-y.result.lo c.ends-y.result.hi c.size-size.result
    c.greatest_remainder-hi.ensures.value c.size-size.ensures c.ends-x.ensures.hi c.ends-y.ensures.lo c.ends-y.ensures.hi (omega (arith, ints)) (omega (arith, ints)))
