-- The norm of a box's state isn't Bottom: the lower ends of the ranges are a point of it.
use Rattle.std.proofs.Common.{◌≡◌, ◌≢◌, ⊎_elim, ℕ, zero, suc, ◌+◌, ◌-◌, ◌^◌, ◌<◌, ◌≤◌, ℤ, pos, ◌-ℤ◌, ◌≤ℤ◌, neg_ℤ, FitsSigned, length, get_or, refl, sym, ap, subst, arith}
use Rattle.std.specs.Int.{w64}
use Rattle.std.specs.List.{All}
use Rattle.std.proofs.lemmas.Int.{ints}
use Rattle.std.proofs.lemmas.Bool.{cases_eq}
use Rattle.vmv_zone.specs.declared.zone.Zone.{Zone}
use Rattle.vmv_zone.specs.Bounds.{top_bound}
use Rattle.vmv_zone.specs.Zone.{bound_of, NotBottom, HasPoint, IsNormOf}
use Rattle.vmv_zone.proofs.GuardLaws.{norm_point}
use Rattle.vmv_cert.specs.Tables.{Box, IsBoxState}
use Rattle.vmv_forward.proofs.Stepping.{got}

-- the lower ends, counted from 1; 0 is 0
abbrev pub ends_of : Box → ℕ → ℤ
ends_of box zero = pos 0
ends_of box (suc i) = (get_or box i (pos 0, pos 0)).0

abbrev pub AreRanges : Box → Type 0
AreRanges box = All (λ range. FitsSigned w64 range.0 × (range.0 ≤ℤ range.1)) box

range_at : (box : Box) (i : ℕ) → AreRanges box → i < length box → FitsSigned w64 (get_or box i (pos 0, pos 0)).0 × ((get_or box i (pos 0, pos 0)).0 ≤ℤ (get_or box i (pos 0, pos 0)).1)
range_at box i are h = are i (pos 0, pos 0) h

end_fits : (box : Box) (i : ℕ) → AreRanges box → i ≤ length box → FitsSigned w64 (ends_of box i)
end_fits box zero are h = omega (arith, ints)
end_fits box (suc i) are h = (range_at box i are (omega arith)).0

top_apart : (i j : ℕ) → i ≢ j → j ≢ 0 → i ≢ 0 → top_bound i j ≡ pos (2 ^ 64 - 1)
top_apart i j h k l = grind arith

top_self : (i j : ℕ) → i ≡ j → top_bound i j ≡ pos 0
top_self i j h = grind arith

-- a bound that two words keep
top_keeps : (i j : ℕ) (x : ℤ) → (i ≡ j → x ≤ℤ pos 0) → x ≤ℤ pos (2 ^ 64 - 1) → x ≤ℤ top_bound (suc i) (suc j)
top_keeps i j x same most =
    ⊎_elim (λ (e : i ≡ j). subst (λ (b : ℤ). x ≤ℤ b) (sym (top_self (suc i) (suc j) (ap suc e))) (same e))
    (λ (n : i ≡ j → ⊥). subst (λ (b : ℤ). x ≤ℤ b) (sym (top_apart (suc i) (suc j) (λ e. n (let f : i ≡ j = omega arith in f)) (λ e. absurd (omega arith)) (λ e. absurd (omega arith)))) most) (cases_eq i j)

end_bound : (box : Box) (z : Zone) → AreRanges box → IsBoxState box z → (i j : ℕ) → i ≤ length box → j ≤ length box → (ends_of box i -ℤ ends_of box j) ≤ℤ bound_of z i j
end_bound box z are is zero zero hi hj = let o = is.origin in omega (arith, ints)
end_bound box z are is (suc i) zero hi hj =
    let r = range_at box i are (omega arith) in
    let e : i + 1 ≡ suc i = omega arith in
    let high : bound_of z (suc i) 0 ≡ (get_or box i (pos 0, pos 0)).1 = subst (λ k. bound_of z k 0 ≡ (get_or box i (pos 0, pos 0)).1) e (is.high i (get_or box i (pos 0, pos 0)) (got box i (pos 0, pos 0) (omega arith))) in
    let order = r.1 in
    omega (arith, ints)
end_bound box z are is zero (suc j) hi hj =
    let e : j + 1 ≡ suc j = omega arith in
    let low : bound_of z 0 (suc j) ≡ neg_ℤ (get_or box j (pos 0, pos 0)).0 = subst (λ k. bound_of z 0 k ≡ neg_ℤ (get_or box j (pos 0, pos 0)).0) e (is.low j (get_or box j (pos 0, pos 0)) (got box j (pos 0, pos 0) (omega arith))) in
    omega (arith, ints)
end_bound box z are is (suc i) (suc j) hi hj =
    let o = is.others (suc i) (suc j) (omega arith) hi (omega arith) hj in
    let one = end_fits box (suc i) are hi in
    let two = end_fits box (suc j) are hj in
    subst (λ (b : ℤ). (ends_of box (suc i) -ℤ ends_of box (suc j)) ≤ℤ b) (sym o)
    (top_keeps i j (ends_of box (suc i) -ℤ ends_of box (suc j)) (λ e. (let s : ends_of box (suc i) ≡ ends_of box (suc j) = ap (λ k. ends_of box (suc k)) e in omega (arith, ints))) (omega (arith, ints)))

-- the norm of the state of a box of words isn't Bottom, where no range is empty
pub box_up : (box : Box) (z n : Zone) → AreRanges box → IsBoxState box z → IsNormOf z n → NotBottom n
box_up box z n are is norm =
    let vars = is.vars in
    let point : HasPoint z (ends_of box) = record {
      not_bottom = is.not_bottom;
      zero = refl;
      words = λ i hi. end_fits box i are (omega arith);
      bounds = λ i j hi hj. end_bound box z are is i j (omega arith) (omega arith);
      marks = λ i from hi marked. absurd (is.unmarked i marked);
    } in
    (norm_point z n (ends_of box) norm point).not_bottom
