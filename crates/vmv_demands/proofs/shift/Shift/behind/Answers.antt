use Rattle.std.proofs.Common.{◌≡◌, ◌+ℤ◌, ◌-ℤ◌, ◌<ℤ◌, ◌≤ℤ◌, FitsSigned, w64, inl, inr, refl, sym, ◌∙◌, arith, rules}
use Rattle.std.specs.Int.{w128, int_min, int_max}
use Rattle.std.proofs.lemmas.Int.{ints, clamps, to_z-of_z}
use Rattle.vmv_demands.specs.Wants.{greatest}
use Rattle.vmv_demands.proofs.Shifting.{is_below, not_below, greatest_end, start_above, start_is, behind_is, shift_none}
use Rattle.vmv_demands.proofs.shift.Shift.behind.Goals as goal

pub difference-requires-clause-low : goal.difference-requires-clause-low
difference-requires-clause-low c =
    let a0 : FitsSigned w64 c.args.self.lo = search rules in
    let a1 : FitsSigned w64 c.args.self.hi = search rules in
    let a2 : FitsSigned w64 c.args.self.start = search rules in
    let a3 : FitsSigned w64 c.args.first.lo = search rules in
    let a4 : FitsSigned w64 c.args.first.hi = search rules in
    let a5 : FitsSigned w64 c.args.first.start = search rules in
    let a6 : FitsSigned w128 c.by-by.result = search rules in
    let a7 : FitsSigned w128 c.sum.result = search rules in
    let a8 : FitsSigned w128 c.from.result = search rules in
    let a9 : FitsSigned w128 c.max-lo.result = search rules in
    let a10 : FitsSigned w128 c.sum-2.result = search rules in
    let a11 : FitsSigned w128 c.from-2.result = search rules in
    let a12 : FitsSigned w128 c.min-hi.result = search rules in
    let a13 : FitsSigned w128 c.by.result = search rules in
    let e0 : c.sum.result ≡ c.args.self.lo +ℤ c.by-by.result = simp to_z-of_z at c.sum.ensures in
    let e1 : c.from.result ≡ c.args.first.lo = simp to_z-of_z at c.from.ensures in
    let e2 : c.max-lo.result ≡ int_max c.sum.result c.from.result = simp to_z-of_z at c.max-lo.ensures.value in
    let e3 : c.sum-2.result ≡ c.args.self.hi +ℤ c.by-by.result = simp to_z-of_z at c.sum-2.ensures in
    let e4 : c.from-2.result ≡ c.args.first.hi = simp to_z-of_z at c.from-2.ensures in
    let e5 : c.min-hi.result ≡ int_min c.sum-2.result c.from-2.result = simp to_z-of_z at c.min-hi.ensures.value in
    simp to_z-of_z (omega (arith, ints, clamps))

pub difference-requires-clause-high : goal.difference-requires-clause-high
difference-requires-clause-high c =
    let a0 : FitsSigned w64 c.args.self.lo = search rules in
    let a1 : FitsSigned w64 c.args.self.hi = search rules in
    let a2 : FitsSigned w64 c.args.self.start = search rules in
    let a3 : FitsSigned w64 c.args.first.lo = search rules in
    let a4 : FitsSigned w64 c.args.first.hi = search rules in
    let a5 : FitsSigned w64 c.args.first.start = search rules in
    let a6 : FitsSigned w128 c.by-by.result = search rules in
    let a7 : FitsSigned w128 c.sum.result = search rules in
    let a8 : FitsSigned w128 c.from.result = search rules in
    let a9 : FitsSigned w128 c.max-lo.result = search rules in
    let a10 : FitsSigned w128 c.sum-2.result = search rules in
    let a11 : FitsSigned w128 c.from-2.result = search rules in
    let a12 : FitsSigned w128 c.min-hi.result = search rules in
    let a13 : FitsSigned w128 c.by.result = search rules in
    let e0 : c.sum.result ≡ c.args.self.lo +ℤ c.by-by.result = simp to_z-of_z at c.sum.ensures in
    let e1 : c.from.result ≡ c.args.first.lo = simp to_z-of_z at c.from.ensures in
    let e2 : c.max-lo.result ≡ int_max c.sum.result c.from.result = simp to_z-of_z at c.max-lo.ensures.value in
    let e3 : c.sum-2.result ≡ c.args.self.hi +ℤ c.by-by.result = simp to_z-of_z at c.sum-2.ensures in
    let e4 : c.from-2.result ≡ c.args.first.hi = simp to_z-of_z at c.from-2.ensures in
    let e5 : c.min-hi.result ≡ int_min c.sum-2.result c.from-2.result = simp to_z-of_z at c.min-hi.ensures.value in
    simp to_z-of_z (greatest_end c.max-lo.result c.sum.result c.from.result c.args.self.lo c.by-by.result c.args.first.lo e2 e0 e1 a0 a3 c.by-by.ensures.high)

pub difference-start-requires-clause-low : goal.difference-start-requires-clause-low
difference-start-requires-clause-low c =
    let a0 : FitsSigned w64 c.args.self.lo = search rules in
    let a1 : FitsSigned w64 c.args.self.hi = search rules in
    let a2 : FitsSigned w64 c.args.self.start = search rules in
    let a3 : FitsSigned w64 c.args.first.lo = search rules in
    let a4 : FitsSigned w64 c.args.first.hi = search rules in
    let a5 : FitsSigned w64 c.args.first.start = search rules in
    let a6 : FitsSigned w128 c.by-by.result = search rules in
    let a7 : FitsSigned w128 c.sum.result = search rules in
    let a8 : FitsSigned w128 c.from.result = search rules in
    let a9 : FitsSigned w128 c.max-lo.result = search rules in
    let a10 : FitsSigned w128 c.sum-2.result = search rules in
    let a11 : FitsSigned w128 c.from-2.result = search rules in
    let a12 : FitsSigned w128 c.min-hi.result = search rules in
    let a13 : FitsSigned w128 c.by.result = search rules in
    let a14 : FitsSigned w128 c.difference.result = search rules in
    let e0 : c.sum.result ≡ c.args.self.lo +ℤ c.by-by.result = simp to_z-of_z at c.sum.ensures in
    let e1 : c.from.result ≡ c.args.first.lo = simp to_z-of_z at c.from.ensures in
    let e2 : c.max-lo.result ≡ int_max c.sum.result c.from.result = simp to_z-of_z at c.max-lo.ensures.value in
    let e3 : c.sum-2.result ≡ c.args.self.hi +ℤ c.by-by.result = simp to_z-of_z at c.sum-2.ensures in
    let e4 : c.from-2.result ≡ c.args.first.hi = simp to_z-of_z at c.from-2.ensures in
    let e5 : c.min-hi.result ≡ int_min c.sum-2.result c.from-2.result = simp to_z-of_z at c.min-hi.ensures.value in
    let e6 : c.difference.result ≡ c.max-lo.result -ℤ c.by.result = simp to_z-of_z at c.difference.ensures in
    simp to_z-of_z (omega (arith, ints, clamps))

pub difference-start-requires-clause-high : goal.difference-start-requires-clause-high
difference-start-requires-clause-high c =
    let a0 : FitsSigned w64 c.args.self.lo = search rules in
    let a1 : FitsSigned w64 c.args.self.hi = search rules in
    let a2 : FitsSigned w64 c.args.self.start = search rules in
    let a3 : FitsSigned w64 c.args.first.lo = search rules in
    let a4 : FitsSigned w64 c.args.first.hi = search rules in
    let a5 : FitsSigned w64 c.args.first.start = search rules in
    let a6 : FitsSigned w128 c.by-by.result = search rules in
    let a7 : FitsSigned w128 c.sum.result = search rules in
    let a8 : FitsSigned w128 c.from.result = search rules in
    let a9 : FitsSigned w128 c.max-lo.result = search rules in
    let a10 : FitsSigned w128 c.sum-2.result = search rules in
    let a11 : FitsSigned w128 c.from-2.result = search rules in
    let a12 : FitsSigned w128 c.min-hi.result = search rules in
    let a13 : FitsSigned w128 c.by.result = search rules in
    let a14 : FitsSigned w128 c.difference.result = search rules in
    let e0 : c.sum.result ≡ c.args.self.lo +ℤ c.by-by.result = simp to_z-of_z at c.sum.ensures in
    let e1 : c.from.result ≡ c.args.first.lo = simp to_z-of_z at c.from.ensures in
    let e2 : c.max-lo.result ≡ int_max c.sum.result c.from.result = simp to_z-of_z at c.max-lo.ensures.value in
    let e3 : c.sum-2.result ≡ c.args.self.hi +ℤ c.by-by.result = simp to_z-of_z at c.sum-2.ensures in
    let e4 : c.from-2.result ≡ c.args.first.hi = simp to_z-of_z at c.from-2.ensures in
    let e5 : c.min-hi.result ≡ int_min c.sum-2.result c.from-2.result = simp to_z-of_z at c.min-hi.ensures.value in
    let e6 : c.difference.result ≡ c.max-lo.result -ℤ c.by.result = simp to_z-of_z at c.difference.ensures in
    simp to_z-of_z (omega (arith, ints, clamps))

pub word-requires-clause-high : goal.word-requires-clause-high
word-requires-clause-high c =
    let a0 : FitsSigned w64 c.args.self.lo = search rules in
    let a1 : FitsSigned w64 c.args.self.hi = search rules in
    let a2 : FitsSigned w64 c.args.self.start = search rules in
    let a3 : FitsSigned w64 c.args.first.lo = search rules in
    let a4 : FitsSigned w64 c.args.first.hi = search rules in
    let a5 : FitsSigned w64 c.args.first.start = search rules in
    let a6 : FitsSigned w128 c.by-by.result = search rules in
    let a7 : FitsSigned w128 c.sum.result = search rules in
    let a8 : FitsSigned w128 c.from.result = search rules in
    let a9 : FitsSigned w128 c.max-lo.result = search rules in
    let a10 : FitsSigned w128 c.sum-2.result = search rules in
    let a11 : FitsSigned w128 c.from-2.result = search rules in
    let a12 : FitsSigned w128 c.min-hi.result = search rules in
    let a13 : FitsSigned w128 c.by.result = search rules in
    let a14 : FitsSigned w128 c.difference.result = search rules in
    let a15 : FitsSigned w128 c.difference-start.result = search rules in
    let e0 : c.sum.result ≡ c.args.self.lo +ℤ c.by-by.result = simp to_z-of_z at c.sum.ensures in
    let e1 : c.from.result ≡ c.args.first.lo = simp to_z-of_z at c.from.ensures in
    let e2 : c.max-lo.result ≡ int_max c.sum.result c.from.result = simp to_z-of_z at c.max-lo.ensures.value in
    let e3 : c.sum-2.result ≡ c.args.self.hi +ℤ c.by-by.result = simp to_z-of_z at c.sum-2.ensures in
    let e4 : c.from-2.result ≡ c.args.first.hi = simp to_z-of_z at c.from-2.ensures in
    let e5 : c.min-hi.result ≡ int_min c.sum-2.result c.from-2.result = simp to_z-of_z at c.min-hi.ensures.value in
    let over = simp to_z-of_z at c.if-lo-hi.false in
    let below : c.max-lo.result ≤ℤ c.min-hi.result = not_below _ _ over in
    simp to_z-of_z (omega (arith, ints, clamps))

pub word-requires-2-clause-high : goal.word-requires-2-clause-high
word-requires-2-clause-high c =
    let a0 : FitsSigned w64 c.args.self.lo = search rules in
    let a1 : FitsSigned w64 c.args.self.hi = search rules in
    let a2 : FitsSigned w64 c.args.self.start = search rules in
    let a3 : FitsSigned w64 c.args.first.lo = search rules in
    let a4 : FitsSigned w64 c.args.first.hi = search rules in
    let a5 : FitsSigned w64 c.args.first.start = search rules in
    let a6 : FitsSigned w128 c.by-by.result = search rules in
    let a7 : FitsSigned w128 c.sum.result = search rules in
    let a8 : FitsSigned w128 c.from.result = search rules in
    let a9 : FitsSigned w128 c.max-lo.result = search rules in
    let a10 : FitsSigned w128 c.sum-2.result = search rules in
    let a11 : FitsSigned w128 c.from-2.result = search rules in
    let a12 : FitsSigned w128 c.min-hi.result = search rules in
    let a13 : FitsSigned w128 c.by.result = search rules in
    let a14 : FitsSigned w128 c.difference.result = search rules in
    let a15 : FitsSigned w128 c.difference-start.result = search rules in
    let e0 : c.sum.result ≡ c.args.self.lo +ℤ c.by-by.result = simp to_z-of_z at c.sum.ensures in
    let e1 : c.from.result ≡ c.args.first.lo = simp to_z-of_z at c.from.ensures in
    let e2 : c.max-lo.result ≡ int_max c.sum.result c.from.result = simp to_z-of_z at c.max-lo.ensures.value in
    let e3 : c.sum-2.result ≡ c.args.self.hi +ℤ c.by-by.result = simp to_z-of_z at c.sum-2.ensures in
    let e4 : c.from-2.result ≡ c.args.first.hi = simp to_z-of_z at c.from-2.ensures in
    let e5 : c.min-hi.result ≡ int_min c.sum-2.result c.from-2.result = simp to_z-of_z at c.min-hi.ensures.value in
    simp to_z-of_z (omega (arith, ints, clamps))

pub word-requires-3-clause-low : goal.word-requires-3-clause-low
word-requires-3-clause-low c =
    let a0 : FitsSigned w64 c.args.self.lo = search rules in
    let a1 : FitsSigned w64 c.args.self.hi = search rules in
    let a2 : FitsSigned w64 c.args.self.start = search rules in
    let a3 : FitsSigned w64 c.args.first.lo = search rules in
    let a4 : FitsSigned w64 c.args.first.hi = search rules in
    let a5 : FitsSigned w64 c.args.first.start = search rules in
    let a6 : FitsSigned w128 c.by-by.result = search rules in
    let a7 : FitsSigned w128 c.sum.result = search rules in
    let a8 : FitsSigned w128 c.from.result = search rules in
    let a9 : FitsSigned w128 c.max-lo.result = search rules in
    let a10 : FitsSigned w128 c.sum-2.result = search rules in
    let a11 : FitsSigned w128 c.from-2.result = search rules in
    let a12 : FitsSigned w128 c.min-hi.result = search rules in
    let a13 : FitsSigned w128 c.by.result = search rules in
    let a14 : FitsSigned w128 c.difference.result = search rules in
    let a15 : FitsSigned w128 c.difference-start.result = search rules in
    let e0 : c.sum.result ≡ c.args.self.lo +ℤ c.by-by.result = simp to_z-of_z at c.sum.ensures in
    let e1 : c.from.result ≡ c.args.first.lo = simp to_z-of_z at c.from.ensures in
    let e2 : c.max-lo.result ≡ int_max c.sum.result c.from.result = simp to_z-of_z at c.max-lo.ensures.value in
    let e3 : c.sum-2.result ≡ c.args.self.hi +ℤ c.by-by.result = simp to_z-of_z at c.sum-2.ensures in
    let e4 : c.from-2.result ≡ c.args.first.hi = simp to_z-of_z at c.from-2.ensures in
    let e5 : c.min-hi.result ≡ int_min c.sum-2.result c.from-2.result = simp to_z-of_z at c.min-hi.ensures.value in
    let e6 : c.difference.result ≡ c.max-lo.result -ℤ c.by.result = simp to_z-of_z at c.difference.ensures in
    let e7 : c.difference-start.result ≡ c.difference.result -ℤ c.by-by.result = simp to_z-of_z at c.difference-start.ensures in
    simp to_z-of_z (start_above c.difference-start.result c.difference.result c.max-lo.result c.sum.result c.from.result c.by.result c.by-by.result c.args.self e7 e6 e2 e0 c.by.ensures.value a2)

pub returns-then-lo-hi : goal.returns-then-lo-hi
returns-then-lo-hi c = λ want w.
    let a0 : FitsSigned w64 c.args.self.lo = search rules in
    let a1 : FitsSigned w64 c.args.self.hi = search rules in
    let a2 : FitsSigned w64 c.args.self.start = search rules in
    let a3 : FitsSigned w64 c.args.first.lo = search rules in
    let a4 : FitsSigned w64 c.args.first.hi = search rules in
    let a5 : FitsSigned w64 c.args.first.start = search rules in
    let a6 : FitsSigned w128 c.by-by.result = search rules in
    let a7 : FitsSigned w128 c.sum.result = search rules in
    let a8 : FitsSigned w128 c.from.result = search rules in
    let a9 : FitsSigned w128 c.max-lo.result = search rules in
    let a10 : FitsSigned w128 c.sum-2.result = search rules in
    let a11 : FitsSigned w128 c.from-2.result = search rules in
    let a12 : FitsSigned w128 c.min-hi.result = search rules in
    let a13 : FitsSigned w128 c.by.result = search rules in
    let a14 : FitsSigned w128 c.difference.result = search rules in
    let a15 : FitsSigned w128 c.difference-start.result = search rules in
    let e0 : c.sum.result ≡ c.args.self.lo +ℤ c.by-by.result = simp to_z-of_z at c.sum.ensures in
    let e1 : c.from.result ≡ c.args.first.lo = simp to_z-of_z at c.from.ensures in
    let e2 : c.max-lo.result ≡ int_max c.sum.result c.from.result = simp to_z-of_z at c.max-lo.ensures.value in
    let e3 : c.sum-2.result ≡ c.args.self.hi +ℤ c.by-by.result = simp to_z-of_z at c.sum-2.ensures in
    let e4 : c.from-2.result ≡ c.args.first.hi = simp to_z-of_z at c.from-2.ensures in
    let e5 : c.min-hi.result ≡ int_min c.sum-2.result c.from-2.result = simp to_z-of_z at c.min-hi.ensures.value in
    let e6 : c.difference.result ≡ c.max-lo.result -ℤ c.by.result = simp to_z-of_z at c.difference.ensures in
    let e7 : c.difference-start.result ≡ c.difference.result -ℤ c.by-by.result = simp to_z-of_z at c.difference-start.ensures in
    let over = simp to_z-of_z at c.if-lo-hi.true in
    let above : c.min-hi.result <ℤ c.max-lo.result = is_below _ _ over in
    sym (sym (behind_is c.args.self c.args.first (record { lo = c.max-lo.result; hi = c.min-hi.result; start = c.difference-start.result }) (omega (arith, ints, clamps)) (omega (arith, ints, clamps)) (start_is _ _ _ _ _ _ _ _ e7 e6 refl c.by.ensures.value c.by-by.ensures.value) want) ∙ shift_none (record { lo = c.max-lo.result; hi = c.min-hi.result; start = c.difference-start.result }) want w (inl above))

pub returns-then-start-gt-GREATEST : goal.returns-then-start-gt-GREATEST
returns-then-start-gt-GREATEST c = λ want w.
    let a0 : FitsSigned w64 c.args.self.lo = search rules in
    let a1 : FitsSigned w64 c.args.self.hi = search rules in
    let a2 : FitsSigned w64 c.args.self.start = search rules in
    let a3 : FitsSigned w64 c.args.first.lo = search rules in
    let a4 : FitsSigned w64 c.args.first.hi = search rules in
    let a5 : FitsSigned w64 c.args.first.start = search rules in
    let a6 : FitsSigned w128 c.by-by.result = search rules in
    let a7 : FitsSigned w128 c.sum.result = search rules in
    let a8 : FitsSigned w128 c.from.result = search rules in
    let a9 : FitsSigned w128 c.max-lo.result = search rules in
    let a10 : FitsSigned w128 c.sum-2.result = search rules in
    let a11 : FitsSigned w128 c.from-2.result = search rules in
    let a12 : FitsSigned w128 c.min-hi.result = search rules in
    let a13 : FitsSigned w128 c.by.result = search rules in
    let a14 : FitsSigned w128 c.difference.result = search rules in
    let a15 : FitsSigned w128 c.difference-start.result = search rules in
    let e0 : c.sum.result ≡ c.args.self.lo +ℤ c.by-by.result = simp to_z-of_z at c.sum.ensures in
    let e1 : c.from.result ≡ c.args.first.lo = simp to_z-of_z at c.from.ensures in
    let e2 : c.max-lo.result ≡ int_max c.sum.result c.from.result = simp to_z-of_z at c.max-lo.ensures.value in
    let e3 : c.sum-2.result ≡ c.args.self.hi +ℤ c.by-by.result = simp to_z-of_z at c.sum-2.ensures in
    let e4 : c.from-2.result ≡ c.args.first.hi = simp to_z-of_z at c.from-2.ensures in
    let e5 : c.min-hi.result ≡ int_min c.sum-2.result c.from-2.result = simp to_z-of_z at c.min-hi.ensures.value in
    let e6 : c.difference.result ≡ c.max-lo.result -ℤ c.by.result = simp to_z-of_z at c.difference.ensures in
    let e7 : c.difference-start.result ≡ c.difference.result -ℤ c.by-by.result = simp to_z-of_z at c.difference-start.ensures in
    let over = simp to_z-of_z at c.if-start-gt-GREATEST.true in
    let above : greatest <ℤ c.difference-start.result = is_below _ _ over in
    sym (sym (behind_is c.args.self c.args.first (record { lo = c.max-lo.result; hi = c.min-hi.result; start = c.difference-start.result }) (omega (arith, ints, clamps)) (omega (arith, ints, clamps)) (start_is _ _ _ _ _ _ _ _ e7 e6 refl c.by.ensures.value c.by-by.ensures.value) want) ∙ shift_none (record { lo = c.max-lo.result; hi = c.min-hi.result; start = c.difference-start.result }) want w (inr above))

pub returns : goal.returns
returns c = λ want w.
    let a0 : FitsSigned w64 c.args.self.lo = search rules in
    let a1 : FitsSigned w64 c.args.self.hi = search rules in
    let a2 : FitsSigned w64 c.args.self.start = search rules in
    let a3 : FitsSigned w64 c.args.first.lo = search rules in
    let a4 : FitsSigned w64 c.args.first.hi = search rules in
    let a5 : FitsSigned w64 c.args.first.start = search rules in
    let a6 : FitsSigned w64 c.word.result = search rules in
    let a7 : FitsSigned w64 c.word-2.result = search rules in
    let a8 : FitsSigned w64 c.word-3.result = search rules in
    let a9 : FitsSigned w128 c.by-by.result = search rules in
    let a10 : FitsSigned w128 c.sum.result = search rules in
    let a11 : FitsSigned w128 c.from.result = search rules in
    let a12 : FitsSigned w128 c.max-lo.result = search rules in
    let a13 : FitsSigned w128 c.sum-2.result = search rules in
    let a14 : FitsSigned w128 c.from-2.result = search rules in
    let a15 : FitsSigned w128 c.min-hi.result = search rules in
    let a16 : FitsSigned w128 c.by.result = search rules in
    let a17 : FitsSigned w128 c.difference.result = search rules in
    let a18 : FitsSigned w128 c.difference-start.result = search rules in
    let e0 : c.sum.result ≡ c.args.self.lo +ℤ c.by-by.result = simp to_z-of_z at c.sum.ensures in
    let e1 : c.from.result ≡ c.args.first.lo = simp to_z-of_z at c.from.ensures in
    let e2 : c.max-lo.result ≡ int_max c.sum.result c.from.result = simp to_z-of_z at c.max-lo.ensures.value in
    let e3 : c.sum-2.result ≡ c.args.self.hi +ℤ c.by-by.result = simp to_z-of_z at c.sum-2.ensures in
    let e4 : c.from-2.result ≡ c.args.first.hi = simp to_z-of_z at c.from-2.ensures in
    let e5 : c.min-hi.result ≡ int_min c.sum-2.result c.from-2.result = simp to_z-of_z at c.min-hi.ensures.value in
    let e6 : c.difference.result ≡ c.max-lo.result -ℤ c.by.result = simp to_z-of_z at c.difference.ensures in
    let e7 : c.difference-start.result ≡ c.difference.result -ℤ c.by-by.result = simp to_z-of_z at c.difference-start.ensures in
    let e8 : c.word.result ≡ c.max-lo.result = simp to_z-of_z at c.word.ensures in
    let e9 : c.word-2.result ≡ c.min-hi.result = simp to_z-of_z at c.word-2.ensures in
    let e10 : c.word-3.result ≡ c.difference-start.result = simp to_z-of_z at c.word-3.ensures in
    simp to_z-of_z (behind_is c.args.self c.args.first (record { lo = c.word.result; hi = c.word-2.result; start = c.word-3.result }) (omega (arith, ints, clamps)) (omega (arith, ints, clamps)) (start_is _ _ _ _ _ _ _ _ (e10 ∙ e7) e6 (sym e8) c.by.ensures.value c.by-by.ensures.value) want)
