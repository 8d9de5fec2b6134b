use Rattle.std.proofs.Common.{arith, ◌≤◌, ◌^◌, FitsSigned, unsigned_abs}
use Rattle.std.specs.Prelude.{int_div}
use Rattle.std.specs.Int.{w64, w128}
use Rattle.std.proofs.lemmas.Int.{ints, to_z-of_z}
use Rattle.vmv_zone.specs.Bounds.{IsWide}
use Rattle.vmv_zone.proofs.Hulls.{quotient_wide}
use Rattle.vmv_zone.proofs.ends.quotient.Goals as goal

pub returns-clause-wide : goal.returns-clause-wide
returns-clause-wide c =
    let word : FitsSigned w64 c.args.a = c.ranges.a in
    let word' : FitsSigned w64 c.args.b = c.ranges.b in
    let a : FitsSigned w128 c.args.a = omega (arith, ints) in
    let b : FitsSigned w128 c.args.b = omega (arith, ints) in
    let size_a : unsigned_abs c.args.a ≤ 2 ^ 63 = omega (arith, ints) in
    let wide : IsWide (int_div c.args.a c.args.b) = quotient_wide c.args.a c.args.b size_a in
    let low = wide.low in
    let high = wide.high in
    let ab : FitsSigned w128 (int_div c.args.a c.args.b) = omega (arith, ints) in
    simp to_z-of_z wide
