use Rattle.std.proofs.Common.{◌≡◌, ◌+ℤ◌, ◌-ℤ◌, FitsSigned, w64, arith, rules}
use Rattle.std.specs.Int.{w128, int_min, int_max}
use Rattle.std.proofs.lemmas.Int.{ints, clamps, to_z-of_z}
use Rattle.vmv_demands.specs.Wants.{least, greatest}
use Rattle.vmv_demands.proofs.Shifting.{less_is}
use Rattle.vmv_demands.proofs.shift.Shift.less.Goals as goal

pub word-requires-3-clause-high : goal.word-requires-3-clause-high
word-requires-3-clause-high c =
    let b : FitsSigned w128 c.args.by = search rules in
    let a0 : FitsSigned w128 c.sum.result = search rules in
    let a1 : FitsSigned w128 c.max-lo.result = search rules in
    let a2 : FitsSigned w128 c.sum-2.result = search rules in
    let a3 : FitsSigned w128 c.min-hi.result = search rules in
    let a4 : FitsSigned w128 c.difference.result = search rules in
    let e0 : c.sum.result ≡ least +ℤ c.args.by = simp to_z-of_z at c.sum.ensures in
    let e1 : c.max-lo.result ≡ int_max least c.sum.result = simp to_z-of_z at c.max-lo.ensures.value in
    let e2 : c.sum-2.result ≡ greatest +ℤ c.args.by = simp to_z-of_z at c.sum-2.ensures in
    let e3 : c.min-hi.result ≡ int_min greatest c.sum-2.result = simp to_z-of_z at c.min-hi.ensures.value in
    let e4 : c.difference.result ≡ c.max-lo.result -ℤ c.args.by = simp to_z-of_z at c.difference.ensures in
    simp to_z-of_z (omega (arith, ints, clamps))

pub returns : goal.returns
returns c = λ want w.
    let b : FitsSigned w128 c.args.by = search rules in
    let a0 : FitsSigned w64 c.word.result = search rules in
    let a1 : FitsSigned w64 c.word-2.result = search rules in
    let a2 : FitsSigned w64 c.word-3.result = search rules in
    let a3 : FitsSigned w128 c.sum.result = search rules in
    let a4 : FitsSigned w128 c.max-lo.result = search rules in
    let a5 : FitsSigned w128 c.sum-2.result = search rules in
    let a6 : FitsSigned w128 c.min-hi.result = search rules in
    let a7 : FitsSigned w128 c.difference.result = search rules in
    let e0 : c.sum.result ≡ least +ℤ c.args.by = simp to_z-of_z at c.sum.ensures in
    let e1 : c.max-lo.result ≡ int_max least c.sum.result = simp to_z-of_z at c.max-lo.ensures.value in
    let e2 : c.sum-2.result ≡ greatest +ℤ c.args.by = simp to_z-of_z at c.sum-2.ensures in
    let e3 : c.min-hi.result ≡ int_min greatest c.sum-2.result = simp to_z-of_z at c.min-hi.ensures.value in
    let e4 : c.difference.result ≡ c.max-lo.result -ℤ c.args.by = simp to_z-of_z at c.difference.ensures in
    let e5 : c.word.result ≡ c.max-lo.result = simp to_z-of_z at c.word.ensures in
    let e6 : c.word-2.result ≡ c.min-hi.result = simp to_z-of_z at c.word-2.ensures in
    let e7 : c.word-3.result ≡ c.difference.result = simp to_z-of_z at c.word-3.ensures in
    simp to_z-of_z (less_is (record { lo = c.word.result; hi = c.word-2.result; start = c.word-3.result }) c.args.by (omega (arith, ints, clamps)) (omega (arith, ints, clamps)) (omega (arith, ints, clamps)) want w)
