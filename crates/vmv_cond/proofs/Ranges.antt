-- Ranges stepped off 0, over plain numbers.
use Rattle.std.proofs.Common.{◌≡◌, ◌≢◌, ◌↔◌, ℤ, pos, negsuc, ◌+ℤ◌, ◌≤ℤ◌, ◌<ℤ◌, IsTrue, IsFalse, Bool, true, false, ◌||◌, ◌⊎◌, inl, inr, ⊎_elim, ◌^◌, ◌-◌, FitsSigned, w64, arith, rules}
use Rattle.std.specs.Int.{int_max, int_min}
use Rattle.std.proofs.lemmas.Int.{ints, clamps}
use Rattle.vmv_cond.specs.Normal.{InRange, IsNormal}

-- `end` with a left-out 0 stepped to `next`
pub record OffZero (end : ℤ) (zero_out : Bool) (next result : ℤ) : Type 0 where
  pub unmarked : IsFalse zero_out → result ≡ end
  pub nonzero : end ≢ pos 0 → result ≡ end
  pub zero : IsTrue zero_out → end ≡ pos 0 → result ≡ next

pub up_off_zero : (lo lo' : ℤ) (z : Bool) (w : ℤ) → OffZero lo z (pos 1) lo' → lo ≤ℤ w → (IsTrue z → w ≢ pos 0) → lo' ≤ℤ w
up_off_zero lo lo' z w off above nonzero = grind (arith, ints)

pub down_off_zero : (hi hi' : ℤ) (z : Bool) (w : ℤ) → OffZero hi z (negsuc 0) hi' → w ≤ℤ hi → (IsTrue z → w ≢ pos 0) → w ≤ℤ hi'
down_off_zero hi hi' z w off below nonzero = grind (arith, ints)

pub above_off_zero : (lo lo' : ℤ) (z : Bool) (w : ℤ) → OffZero lo z (pos 1) lo' → lo' ≤ℤ w → lo ≤ℤ w
above_off_zero lo lo' z w off above = grind (arith, ints)

pub below_off_zero : (hi hi' : ℤ) (z : Bool) (w : ℤ) → OffZero hi z (negsuc 0) hi' → w ≤ℤ hi' → w ≤ℤ hi
below_off_zero hi hi' z w off below = grind (arith, ints)

-- `P ↔ Q` and `Q ↔ R` give `P ↔ R`
pub iff_through : {P Q R : Type 0} → P ↔ Q → Q ↔ R → P ↔ R
iff_through a b = ((λ p. b.0 (a.0 p)), (λ r. a.1 (b.1 r)))

or_true_left : (m n : Bool) → IsTrue m → IsTrue (m || n)
or_true_left m n = search rules

or_true_right : (m n : Bool) → IsTrue n → IsTrue (m || n)
or_true_right true n h = search rules
or_true_right false n h = h

or_true_cases : (m n : Bool) → IsTrue (m || n) → IsTrue m ⊎ IsTrue n
or_true_cases true n h = inl h
or_true_cases false n h = inr h

pub in_range_meet : (a b c d lo hi : ℤ) (m n z : Bool) (w : ℤ) → lo ≡ int_max a c → hi ≡ int_min b d → z ≡ (m || n) →
    InRange lo hi z w ↔ (InRange a b m w × InRange c d n w)
in_range_meet a b c d lo hi m n z w low high mark = (
  (λ h. let above : lo ≤ℤ w = h.above in let below : w ≤ℤ hi = h.below in (
    record { above = omega (arith, ints, clamps); below = omega (arith, ints, clamps); nonzero = λ t. h.nonzero (rw mark (or_true_left m n t)) },
    record { above = omega (arith, ints, clamps); below = omega (arith, ints, clamps); nonzero = λ t. h.nonzero (rw mark (or_true_right m n t)) },
  )),
  (λ h. let above = h.0.above in let above' = h.1.above in let below = h.0.below in let below' = h.1.below in
      record {
        above = omega (arith, ints, clamps);
        below = omega (arith, ints, clamps);
        nonzero = λ t. ⊎_elim h.0.nonzero h.1.nonzero (or_true_cases m n (rw mark at t));
      }),
)

pub in_range_off_zero : (lo hi lo' hi' : ℤ) (z : Bool) (w : ℤ) → OffZero lo z (pos 1) lo' → OffZero hi z (negsuc 0) hi' →
    InRange lo' hi' z w ↔ InRange lo hi z w
in_range_off_zero lo hi lo' hi' z w low high = (
  (λ h. record { above = above_off_zero lo lo' z w low h.above; below = below_off_zero hi hi' z w high h.below; nonzero = h.nonzero }),
  (λ h. record { above = up_off_zero lo lo' z w low h.above h.nonzero; below = down_off_zero hi hi' z w high h.below h.nonzero; nonzero = h.nonzero }),
)

pub in_range_none : (lo hi lo' hi' : ℤ) (z z' : Bool) (w : ℤ) → hi <ℤ lo → hi' <ℤ lo' → InRange lo hi z w ↔ InRange lo' hi' z' w
in_range_none lo hi lo' hi' z z' w none none' = (
  (λ h. let above = h.above in let below = h.below in absurd (omega (arith, ints))),
  (λ h. let above = h.above in let below = h.below in absurd (omega (arith, ints))),
)

-- a range that excludes 0 is the same with the mark
pub in_range_marked : (lo hi : ℤ) (z : Bool) (w : ℤ) → IsTrue z ⊎ (pos 0 <ℤ lo) ⊎ (hi <ℤ pos 0) → InRange lo hi true w ↔ InRange lo hi z w
in_range_marked lo hi z w out = (
  (λ h. record { above = h.above; below = h.below; nonzero = λ t. h.nonzero (search rules) }),
  (λ h. record { above = h.above; below = h.below; nonzero = λ t. ⊎_elim h.nonzero (λ o. ⊎_elim (λ l e. let above = h.above in omega (arith, ints)) (λ g e. let below = h.below in omega (arith, ints)) o) out }),
)

pub in_range_from : (a b c lo : ℤ) (z : Bool) (w : ℤ) → lo ≡ int_max a c → InRange lo b z w ↔ (InRange a b z w × (c ≤ℤ w))
in_range_from a b c lo z w low = (
  (λ h. let above = h.above in (record { above = omega (arith, ints, clamps); below = h.below; nonzero = h.nonzero }, omega (arith, ints, clamps))),
  (λ h. let above = h.0.above in let from = h.1 in record { above = omega (arith, ints, clamps); below = h.0.below; nonzero = h.0.nonzero }),
)

pub in_range_to : (a b c hi : ℤ) (z : Bool) (w : ℤ) → hi ≡ int_min b c → InRange a hi z w ↔ (InRange a b z w × (w ≤ℤ c))
in_range_to a b c hi z w high = (
  (λ h. let below = h.below in (record { above = h.above; below = omega (arith, ints, clamps); nonzero = h.nonzero }, omega (arith, ints, clamps))),
  (λ h. let below = h.0.below in let to = h.1 in record { above = h.0.above; below = omega (arith, ints, clamps); nonzero = h.0.nonzero }),
)

pub in_range_nonzero : (a b : ℤ) (z : Bool) (w : ℤ) → InRange a b true w ↔ (InRange a b z w × (w ≢ pos 0))
in_range_nonzero a b z w = (
  (λ h. (record { above = h.above; below = h.below; nonzero = λ t. h.nonzero (search rules) }, h.nonzero (search rules))),
  (λ h. record { above = h.0.above; below = h.0.below; nonzero = λ t. h.1 }),
)

-- the second of two facts said in another way
pub iff_second : {P Q R S : Type 0} → P ↔ (Q × R) → R ↔ S → P ↔ (Q × S)
iff_second a b = ((λ p. ((a.0 p).0, b.0 (a.0 p).1)), (λ r. a.1 (r.0, b.1 r.1)))

pub not_less : (c w : ℤ) → (c ≤ℤ w) ↔ ¬ (w <ℤ c)
not_less c w = ((λ h l. omega (arith, ints)), (λ n. grind (arith, ints)))

pub less_is : (c w d : ℤ) → d +ℤ pos 1 ≡ c → (w ≤ℤ d) ↔ (w <ℤ c)
less_is c w d e = ((λ h. omega (arith, ints)), (λ h. omega (arith, ints)))

pub more_is : (c w d : ℤ) → c +ℤ pos 1 ≡ d → (d ≤ℤ w) ↔ (c <ℤ w)
more_is c w d e = ((λ h. omega (arith, ints)), (λ h. omega (arith, ints)))

pub in_range_zero : (a b lo hi : ℤ) (z : Bool) (w : ℤ) → lo ≡ int_max a (pos 0) → hi ≡ int_min b (pos 0) →
    InRange lo hi z w ↔ (InRange a b z w × (w ≡ pos 0))
in_range_zero a b lo hi z w low high = (
  (λ h. let above = h.above in let below = h.below in
      (record { above = omega (arith, ints, clamps); below = omega (arith, ints, clamps); nonzero = h.nonzero }, omega (arith, ints, clamps))),
  (λ h. let above = h.0.above in let below = h.0.below in let e = h.1 in
      record { above = omega (arith, ints, clamps); below = omega (arith, ints, clamps); nonzero = h.0.nonzero }),
)

-- no word is below the least word, or above the greatest
pub in_range_none_below : (a b c : ℤ) (z : Bool) (w : ℤ) → FitsSigned w64 a → c ≡ negsuc (2 ^ 63 - 1) →
    InRange (pos (2 ^ 63 - 1)) (negsuc (2 ^ 63 - 1)) true w ↔ (InRange a b z w × (w <ℤ c))
in_range_none_below a b c z w fits e = (
  (λ h. let above = h.above in let below = h.below in absurd (omega (arith, ints))),
  (λ h. let above = h.0.above in let less = h.1 in absurd (omega (arith, ints))),
)

pub in_range_none_above : (a b c : ℤ) (z : Bool) (w : ℤ) → FitsSigned w64 b → c ≡ pos (2 ^ 63 - 1) →
    InRange (pos (2 ^ 63 - 1)) (negsuc (2 ^ 63 - 1)) true w ↔ (InRange a b z w × (c <ℤ w))
in_range_none_above a b c z w fits e = (
  (λ h. let above = h.above in let below = h.below in absurd (omega (arith, ints))),
  (λ h. let below = h.0.below in let more = h.1 in absurd (omega (arith, ints))),
)

pub in_range_along : (lo hi lo' hi' : ℤ) (z z' : Bool) → lo ≡ lo' → hi ≡ hi' → z ≡ z' → (w : ℤ) → InRange lo hi z w → InRange lo' hi' z' w
in_range_along lo hi lo' hi' z z' a b c w h = record { above = omega (arith, ints, a, h.above); below = omega (arith, ints, b, h.below); nonzero = λ t. h.nonzero (rw c t) }

-- the ends of a normal range that holds a word are words of it
pub ends_held : (lo hi : ℤ) (z : Bool) → IsNormal lo hi z → lo ≤ℤ hi → InRange lo hi z lo × InRange lo hi z hi
ends_held lo hi z normal order =
    (record { above = omega (arith, ints); below = order; nonzero = normal.marked_lo }, record { above = order; below = omega (arith, ints); nonzero = normal.marked_hi })

-- two normal ranges with the same words have the same ends
pub ends_same : (lo hi lo' hi' : ℤ) (z z' : Bool) → IsNormal lo hi z → IsNormal lo' hi' z' →
    ((w : ℤ) → InRange lo hi z w ↔ InRange lo' hi' z' w) → lo ≤ℤ hi → (lo ≡ lo') × (hi ≡ hi')
ends_same lo hi lo' hi' z z' normal normal' same order =
    let held = ends_held lo hi z normal order in
    let at_lo = (same lo).0 held.0 in
    let at_hi = (same hi).0 held.1 in
    let order' : lo' ≤ℤ hi' = omega (arith, ints, at_lo.above, at_lo.below) in
    let held' = ends_held lo' hi' z' normal' order' in
    let at_lo' = (same lo').1 held'.0 in
    let at_hi' = (same hi').1 held'.1 in
    (omega (arith, ints, at_lo.above, at_lo'.above), omega (arith, ints, at_hi.below, at_hi'.below))
