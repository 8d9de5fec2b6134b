use Rattle.std.proofs.Common.{arith, ◌*ℤ◌, ◌≤◌, ◌^◌, FitsSigned, unsigned_abs, lit<}
use Rattle.std.specs.Int.{w64, w128}
use Rattle.std.proofs.lemmas.Int.{ints, to_z-of_z, fits_signed_mul}
use Rattle.vmv_step.proofs.fails.one_product_fails.Goals as goal

pub returns : goal.returns
returns c =
    let word : FitsSigned w64 c.args.x = c.ranges.x in
    let word' : FitsSigned w64 c.args.y = c.ranges.y in
    let x : FitsSigned w128 c.args.x = omega (arith, ints) in
    let y : FitsSigned w128 c.args.y = omega (arith, ints) in
    let size_x : unsigned_abs c.args.x ≤ 2 ^ 63 = omega (arith, ints) in
    let size_y : unsigned_abs c.args.y ≤ 2 ^ 63 = omega (arith, ints) in
    let xy : FitsSigned w128 (c.args.x *ℤ c.args.y) = fits_signed_mul w128 c.args.x c.args.y (2 ^ 63) (2 ^ 63) size_x size_y (lit< tt) in
    simp to_z-of_z at c.leaves_words.ensures
