use Rattle.std.proofs.Common.{arith, ◌*ℤ◌, ◌≤◌, ◌^◌, FitsSigned, unsigned_abs, lit<}
use Rattle.std.specs.Int.{w64, w128}
use Rattle.std.proofs.lemmas.Int.{ints, to_z-of_z, fits_signed_mul}
use Rattle.vmv_zone.proofs.Hulls.{product_wide}
use Rattle.vmv_zone.proofs.ends.product.Goals as goal

pub returns-clause-value : goal.returns-clause-value
returns-clause-value c =
    let word : FitsSigned w64 c.args.a = c.ranges.a in
    let word' : FitsSigned w64 c.args.b = c.ranges.b in
    let a : FitsSigned w128 c.args.a = omega (arith, ints) in
    let b : FitsSigned w128 c.args.b = omega (arith, ints) in
    let size_a : unsigned_abs c.args.a ≤ 2 ^ 63 = omega (arith, ints) in
    let size_b : unsigned_abs c.args.b ≤ 2 ^ 63 = omega (arith, ints) in
    let ab : FitsSigned w128 (c.args.a *ℤ c.args.b) = fits_signed_mul w128 c.args.a c.args.b (2 ^ 63) (2 ^ 63) size_a size_b (lit< tt) in
    simp to_z-of_z

pub returns-clause-wide : goal.returns-clause-wide
returns-clause-wide c =
    let word : FitsSigned w64 c.args.a = c.ranges.a in
    let word' : FitsSigned w64 c.args.b = c.ranges.b in
    let a : FitsSigned w128 c.args.a = omega (arith, ints) in
    let b : FitsSigned w128 c.args.b = omega (arith, ints) in
    let size_a : unsigned_abs c.args.a ≤ 2 ^ 63 = omega (arith, ints) in
    let size_b : unsigned_abs c.args.b ≤ 2 ^ 63 = omega (arith, ints) in
    let ab : FitsSigned w128 (c.args.a *ℤ c.args.b) = fits_signed_mul w128 c.args.a c.args.b (2 ^ 63) (2 ^ 63) size_a size_b (lit< tt) in
    simp to_z-of_z (product_wide c.args.a c.args.b size_a size_b)
