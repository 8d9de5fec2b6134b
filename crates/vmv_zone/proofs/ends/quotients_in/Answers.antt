use Rattle.std.proofs.Common.{arith, to_z, of_z}
use Rattle.std.specs.Prelude.{int_div}
use Rattle.std.specs.Int.{w64, w128}
use Rattle.std.proofs.lemmas.Int.{ints}
use Rattle.vmv_zone.proofs.Hulls.{hull_four}
use Rattle.vmv_zone.proofs.ends.quotients_in.Goals as goal

pub returns : goal.returns
returns c = hull_four int_div c.args.x.lo c.args.x.hi c.args.c c.args.d
    (to_z w64 (of_z w64 c.args.x.lo)) (to_z w64 (of_z w64 c.args.x.hi)) (to_z w64 (of_z w64 c.args.c)) (to_z w64 (of_z w64 c.args.d))
    c.quotient-ac.result c.quotient-ad.result c.quotient-bc.result c.quotient-bd.result
    (to_z w128 (of_z w128 c.quotient-ac.result)) (to_z w128 (of_z w128 c.quotient-ad.result)) (to_z w128 (of_z w128 c.quotient-bc.result)) (to_z w128 (of_z w128 c.quotient-bd.result)) c.hull_of.result.lo c.hull_of.result.hi
    c.quotient-ac.ensures.value c.quotient-ad.ensures.value c.quotient-bc.ensures.value c.quotient-bd.ensures.value c.hull_of.ensures.lo c.hull_of.ensures.hi
    (omega (arith, ints)) (omega (arith, ints)) (omega (arith, ints)) (omega (arith, ints)) (omega (arith, ints)) (omega (arith, ints)) (omega (arith, ints)) (omega (arith, ints))
