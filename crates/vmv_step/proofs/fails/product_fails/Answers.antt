use Rattle.std.proofs.Common.{arith, to_z, of_z}
use Rattle.std.specs.Int.{w64}
use Rattle.std.proofs.lemmas.Int.{ints}
use Rattle.vmv_step.proofs.Told.{some_product}
use Rattle.vmv_step.proofs.fails.product_fails.Goals as goal

pub returns : goal.returns
returns c = some_product c.args.x.lo c.args.x.hi c.args.y.lo c.args.y.hi
    c.one_product_fails-low_low.result c.one_product_fails-low_high.result c.one_product_fails-high_low.result c.one_product_fails-high_high.result
    (to_z w64 (of_z w64 c.args.x.lo)) (to_z w64 (of_z w64 c.args.y.lo)) (to_z w64 (of_z w64 c.args.x.lo)) (to_z w64 (of_z w64 c.args.y.hi))
    (to_z w64 (of_z w64 c.args.x.hi)) (to_z w64 (of_z w64 c.args.y.lo)) (to_z w64 (of_z w64 c.args.x.hi)) (to_z w64 (of_z w64 c.args.y.hi))
    c.one_product_fails-low_low.ensures c.one_product_fails-low_high.ensures c.one_product_fails-high_low.ensures c.one_product_fails-high_high.ensures
    (omega (arith, ints)) (omega (arith, ints)) (omega (arith, ints)) (omega (arith, ints)) (omega (arith, ints)) (omega (arith, ints)) (omega (arith, ints)) (omega (arith, ints))
