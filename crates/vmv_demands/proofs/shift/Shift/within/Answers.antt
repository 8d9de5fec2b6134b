use Rattle.std.proofs.Common.{◌≡◌, ◌≤ℤ◌, FitsSigned, w64, ap, ◌∙◌, arith, rules}
use Rattle.std.specs.Int.{w128, int_min, int_max}
use Rattle.std.proofs.lemmas.Int.{ints, clamps, to_z-of_z}
use Rattle.vmv_demands.proofs.Shifting.{not_below, range_is}
use Rattle.vmv_demands.proofs.shift.Shift.within.Goals as goal

pub returns : goal.returns
returns c =
    let b : FitsSigned w128 c.args.lo = search rules in
    let d : FitsSigned w128 c.args.hi = search rules in
    let a0 : FitsSigned w64 c.args.self.lo = search rules in
    let a1 : FitsSigned w64 c.args.self.hi = search rules in
    let a2 : FitsSigned w64 c.word.result = search rules in
    let a3 : FitsSigned w64 c.word-2.result = search rules in
    let a4 : FitsSigned w128 c.from.result = search rules in
    let a5 : FitsSigned w128 c.max-lo.result = search rules in
    let a6 : FitsSigned w128 c.from-2.result = search rules in
    let a7 : FitsSigned w128 c.min-hi.result = search rules in
    let e0 : c.from.result ≡ c.args.self.lo = simp to_z-of_z at c.from.ensures in
    let e1 : c.max-lo.result ≡ int_max c.args.lo c.from.result = simp to_z-of_z at c.max-lo.ensures.value in
    let e2 : c.from-2.result ≡ c.args.self.hi = simp to_z-of_z at c.from-2.ensures in
    let e3 : c.min-hi.result ≡ int_min c.args.hi c.from-2.result = simp to_z-of_z at c.min-hi.ensures.value in
    let e4 : c.word.result ≡ c.max-lo.result = simp to_z-of_z at c.word.ensures in
    let e5 : c.word-2.result ≡ c.min-hi.result = simp to_z-of_z at c.word-2.ensures in
    let over = simp to_z-of_z at c.if-lo-hi.false in
    let below : c.max-lo.result ≤ℤ c.min-hi.result = not_below _ _ over in
    let low : c.word.result ≡ int_max c.args.lo c.args.self.lo = e4 ∙ e1 ∙ ap (int_max c.args.lo) e0 in
    let high : c.word-2.result ≡ int_min c.args.hi c.args.self.hi = e5 ∙ e3 ∙ ap (int_min c.args.hi) e2 in
    simp to_z-of_z (range_is c.word.result c.word-2.result (int_max c.args.lo c.args.self.lo) (int_min c.args.hi c.args.self.hi) low high (omega (arith, ints)))
