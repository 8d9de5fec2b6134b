use Rattle.std.proofs.Common.{arith, to_z, of_z, ◌*ℤ◌}
use Rattle.std.specs.Int.{w64, w128}
use Rattle.std.proofs.lemmas.Int.{ints}
use Rattle.vmv_zone.proofs.Hulls.{hull_four}
use Rattle.vmv_zone.proofs.ends.products.Goals as goal

pub returns : goal.returns
returns c = hull_four ◌*ℤ◌ c.args.x.lo c.args.x.hi c.args.y.lo c.args.y.hi
    (to_z w64 (of_z w64 c.args.x.lo)) (to_z w64 (of_z w64 c.args.x.hi)) (to_z w64 (of_z w64 c.args.y.lo)) (to_z w64 (of_z w64 c.args.y.hi))
    c.product-ac.result c.product-ad.result c.product-bc.result c.product-bd.result
    (to_z w128 (of_z w128 c.product-ac.result)) (to_z w128 (of_z w128 c.product-ad.result)) (to_z w128 (of_z w128 c.product-bc.result)) (to_z w128 (of_z w128 c.product-bd.result)) c.hull_of.result.lo c.hull_of.result.hi
    c.product-ac.ensures.value c.product-ad.ensures.value c.product-bc.ensures.value c.product-bd.ensures.value c.hull_of.ensures.lo c.hull_of.ensures.hi
    (omega (arith, ints)) (omega (arith, ints)) (omega (arith, ints)) (omega (arith, ints)) (omega (arith, ints)) (omega (arith, ints)) (omega (arith, ints)) (omega (arith, ints))
