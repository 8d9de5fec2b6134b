-- A box's state, one parameter after another.
use Rattle.std.proofs.Common.{◌≡◌, inl, inr, ⊎_elim, ℕ, zero, suc, ◌+◌, ◌<◌, ◌≤◌, ℤ, pos, neg_ℤ, ◌-ℤ◌, Some, List, [], ◌∷◌, length, slice_get, get_or, refl, sym, ap, subst, arith, ◌∙◌}
use Rattle.std.specs.Prelude.{FitsSigned}
use Rattle.std.specs.Int.{w64, w128}
use Rattle.std.proofs.Common.{to_z, of_z}
use Rattle.std.proofs.lemmas.Int.{ints, to_z-of_z}
use Rattle.vmv_zone.specs.declared.zone.Zone.{Zone}
use Rattle.vmv_zone.specs.Bounds.{top_bound}
use Rattle.vmv_zone.specs.Zone.{vars_of, NotBottom, bound_of, IsMarked}
use Rattle.vmv_zone.specs.Zone.{ChangesBound}
use Rattle.vmv_cert.specs.Tables.{IsBoxState}
use Rattle.std.proofs.lemmas.Bool.{cases_eq}
use Rattle.vmv_check.proofs.Lists.{some_same, within, at_place}

same_or : {X : Type 0} (xs : List X) (i : ℕ) (d e : X) → i < length xs → get_or xs i d ≡ get_or xs i e
same_or [] i d e h = absurd (omega arith)
same_or (x ∷ xs) zero d e h = refl
same_or (x ∷ xs) (suc i) d e h = same_or xs i d e (omega (arith, h))

-- the first parameters are in their ranges
pub record Boxing (box : List (ℤ × ℤ)) (i : ℕ) (z : Zone) : Type 0 where
  pub vars : vars_of z ≡ length box
  pub not_bottom : NotBottom z
  pub high : (k : ℕ) (range : ℤ × ℤ) → k < i → slice_get box k ≡ Some range → bound_of z (k + 1) 0 ≡ range.1
  pub low : (k : ℕ) (range : ℤ × ℤ) → k < i → slice_get box k ≡ Some range → bound_of z 0 (k + 1) ≡ neg_ℤ range.0
  pub others : (p q : ℕ) → 1 ≤ p → p ≤ length box → 1 ≤ q → q ≤ length box → bound_of z p q ≡ top_bound p q
  pub origin : bound_of z 0 0 ≡ pos 0
  pub unmarked : (p : ℕ) → IsMarked z p → ⊥

-- one more parameter is in its range
pub boxing_more : (box ranges : List (ℤ × ℤ)) (i : ℕ) (range : ℤ × ℤ) (z z1 z2 : Zone) → ranges ≡ box → i < length ranges → slice_get ranges i ≡ Some range → Boxing box i z → ChangesBound z z1 (i + 1) 0 range.1 → ChangesBound z1 z2 0 (i + 1) (neg_ℤ range.0) →
    Boxing box (i + 1) z2
boxing_more box ranges i range z z1 z2 same inside at b one two =
    let at' : slice_get box i ≡ Some range = subst (λ (l : List (ℤ × ℤ)). slice_get l i ≡ Some range) same at in
    let v1 = one.vars in
    let v2 = two.vars in
    let v = b.vars in
    let long : length ranges ≡ length box = ap length same in
    record {
      vars = v2 ∙ (v1 ∙ v);
      not_bottom = two.bottom ∙ (one.bottom ∙ b.not_bottom);
      high = λ k r below there.
          ⊎_elim (λ (e : k ≡ i).
          let same_range : range ≡ r = some_same (sym at' ∙ subst (λ n. slice_get box n ≡ Some r) e there) in
          subst (λ n. bound_of z2 (n + 1) 0 ≡ r.1) (sym e) (two.others (i + 1) 0 (omega arith) (omega arith) (inl (λ h. omega (arith, h))) ∙ (one.changed ∙ ap (λ (p : ℤ × ℤ). p.1) same_range)))
          (λ (n : k ≡ i → ⊥).
          let in_box = within box k r there in
          two.others (k + 1) 0 (omega arith) (omega arith) (inl (λ h. omega (arith, h))) ∙ (one.others (k + 1) 0 (omega arith) (omega arith) (inl (λ h. n (omega (arith, h)))) ∙ b.high k r (omega arith) there))
          (cases_eq k i);
      low = λ k r below there.
          ⊎_elim (λ (e : k ≡ i).
          let same_range : range ≡ r = some_same (sym at' ∙ subst (λ n. slice_get box n ≡ Some r) e there) in
          subst (λ n. bound_of z2 0 (n + 1) ≡ neg_ℤ r.0) (sym e) (two.changed ∙ ap (λ (p : ℤ × ℤ). neg_ℤ p.0) same_range))
          (λ (n : k ≡ i → ⊥).
          let in_box = within box k r there in
          two.others 0 (k + 1) (omega arith) (omega arith) (inr (λ h. n (omega (arith, h)))) ∙ (one.others 0 (k + 1) (omega arith) (omega arith) (inl (λ h. omega (arith, h))) ∙ b.low k r (omega arith) there))
          (cases_eq k i);
      others = λ p q p1 p2 q1 q2.
          two.others p q (omega arith) (omega arith) (inl (λ h. omega (arith, h, p1))) ∙ (one.others p q (omega arith) (omega arith) (inr (λ h. omega (arith, h, q1))) ∙ b.others p q p1 p2 q1 q2);
      origin = two.others 0 0 (omega arith) (omega arith) (inr (λ h. omega (arith, h))) ∙ (one.others 0 0 (omega arith) (omega arith) (inl (λ h. omega (arith, h))) ∙ b.origin);
      unmarked = λ p marked. b.unmarked p (sym (two.marks p ∙ one.marks p) ∙ marked);
    }

-- all parameters are in their ranges
pub boxing_end : (box : List (ℤ × ℤ)) (i : ℕ) (z : Zone) → length box ≤ i → Boxing box i z → IsBoxState box z
boxing_end box i z full b =
    record {
      vars = b.vars;
      not_bottom = b.not_bottom;
      origin = b.origin;
      high = λ k range at. b.high k range (let h = within box k range at in omega arith) at;
      low = λ k range at. b.low k range (let h = within box k range at in omega arith) at;
      others = b.others;
      unmarked = b.unmarked;
    }

-- a range that is read by its place
pub range_at : (ranges : List (ℤ × ℤ)) (i : ℕ) (d : ℤ × ℤ) → i < length ranges → slice_get ranges i ≡ Some (get_or ranges i d)
range_at ranges i d h = at_place ranges i (get_or ranges i d) h (same_or ranges i d (get_or ranges i d) h)

wide : (n : ℤ) → FitsSigned w64 n → FitsSigned w128 n
wide n f = grind (arith, ints)

wide_neg : (n : ℤ) → FitsSigned w64 n → FitsSigned w128 (neg_ℤ n)
wide_neg n f = grind (arith, ints)

-- a word as a wider number
pub widened : (n : ℤ) → FitsSigned w64 n → to_z w128 (of_z w128 (to_z w64 (of_z w64 n))) ≡ n
widened n f = ap (λ (m : ℤ). to_z w128 (of_z w128 m)) (to_z-of_z w64 n f) ∙ to_z-of_z w128 n (wide n f)

from_zero : (n : ℤ) → (pos 0 -ℤ n) ≡ neg_ℤ n
from_zero n = omega (arith, ints)

pub negated : (n : ℤ) → FitsSigned w64 n → to_z w128 (of_z w128 (pos 0 -ℤ to_z w128 (of_z w128 (to_z w64 (of_z w64 n))))) ≡ neg_ℤ n
negated n f = ap (λ (m : ℤ). to_z w128 (of_z w128 (pos 0 -ℤ m))) (widened n f) ∙ (ap (λ (m : ℤ). to_z w128 (of_z w128 m)) (from_zero n) ∙ to_z-of_z w128 (neg_ℤ n) (wide_neg n f))

-- a range of words that is read is the one that is there
pub read_range : (r : ℤ × ℤ) → FitsSigned w64 r.0 → FitsSigned w64 r.1 → (to_z w64 (of_z w64 r.0) ≡ r.0) × (to_z w64 (of_z w64 r.1) ≡ r.1)
read_range r low high = (to_z-of_z w64 r.0 low, to_z-of_z w64 r.1 high)
