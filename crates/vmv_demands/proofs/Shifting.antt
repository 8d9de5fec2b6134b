-- Moves by sums with literals, one after the other and at once.
use Rattle.std.proofs.Common.{FitsSigned, w64, ◌≡◌, ◌⊎◌, inl, inr, ◌^◌, ℤ, pos, ◌+ℤ◌, ◌-ℤ◌, neg_ℤ, ◌≤ℤ◌, ◌<ℤ◌, int_le, int_lt, Bool, true, false, ◌&&◌, Option, Some, None, refl, sym, ap, ◌∙◌, arith, if◌then◌else◌}
use Rattle.std.specs.Int.{int_min, int_max}
use Rattle.std.proofs.lemmas.Int.{ints, clamps}
use Rattle.vmv_tree.specs.Words.{is_word}
use Rattle.vmv_demands.specs.declared.want.Want.{Want}
use Rattle.vmv_demands.specs.declared.want.Want.TheVariants.{Within, Except}
use Rattle.vmv_demands.specs.declared.shift.Shift.{Shift}
use Rattle.vmv_demands.specs.Wants.{least, greatest, nonempty, moved}
use Rattle.vmv_demands.specs.Shifts.{IsOfWords, by_of, kept_from, shifted, shifted_by, and_shifted, shifted_twice}

-- what stands in a range
le_true : (a b : ℤ) → a ≤ℤ b → int_le a b ≡ true
le_true a b h = grind (arith, ints)

le_false : (a b : ℤ) → b <ℤ a → int_le a b ≡ false
le_false a b h = grind (arith, ints)

pub true_le : (a b : ℤ) → int_le a b ≡ true → a ≤ℤ b
true_le a b h = grind (arith, ints)

false_le : (a b : ℤ) → int_le a b ≡ false → b <ℤ a
false_le a b h = grind (arith, ints)

both : (p q : Bool) → (p && q) ≡ true → (p ≡ true) × (q ≡ true)
both true q h = (refl, h)
both false q h = absurd (cc)

either : (p q : Bool) → (p && q) ≡ false → (p ≡ false) ⊎ (q ≡ false)
either true q h = inr h
either false q h = inl refl

none_in : (lo hi : ℤ) → hi <ℤ lo → nonempty lo hi ≡ None
none_in lo hi h = ap (λ (t : Bool). if t then Some (Within lo hi) else None) (le_false lo hi h)

in_range : (lo hi c : ℤ) → lo ≤ℤ c → c ≤ℤ hi → kept_from lo hi c ≡ Some (Except c)
in_range lo hi c h k = λ i. if le_true lo c h i && le_true c hi k i then Some (Except c) else None

and_none : (p : Bool) → (p && false) ≡ false
and_none true = refl
and_none false = refl

out_of_range : (lo hi c : ℤ) → (c <ℤ lo) ⊎ (hi <ℤ c) → kept_from lo hi c ≡ None
out_of_range lo hi c (inl h) = λ i. if le_false lo c h i && int_le c hi then Some (Except c) else None
out_of_range lo hi c (inr h) = (λ i. if int_le lo c && le_false c hi h i then Some (Except c) else None) ∙ ap (λ (t : Bool). if t then Some (Except c) else None) (and_none (int_le lo c))

pub is_below : (a b : ℤ) → int_lt a b ≡ true → a <ℤ b
is_below a b h = grind (arith, ints)

pub not_below : (a b : ℤ) → int_lt a b ≡ false → b ≤ℤ a
not_below a b h = grind (arith, ints)

pub range_is : (lo hi low high : ℤ) → lo ≡ low → hi ≡ high → lo ≤ℤ hi → Some (Within lo hi) ≡ nonempty low high
range_is lo hi low high e f h = sym (ap (λ (t : Bool). if t then Some (Within lo hi) else None) (le_true lo hi h)) ∙ (λ i. nonempty (e i) (f i))

-- one move
less_low : (lo by a : ℤ) → lo ≡ int_max least (least +ℤ by) → least ≤ℤ a → int_max (a +ℤ by) lo ≡ int_max (a +ℤ by) least
less_low lo by a e h = omega (arith, ints, clamps)

less_high : (hi by b : ℤ) → hi ≡ int_min greatest (greatest +ℤ by) → b ≤ℤ greatest → int_min (b +ℤ by) hi ≡ int_min (b +ℤ by) greatest
less_high hi by b e h = omega (arith, ints, clamps)

pub is_word-range : (z : ℤ) → (if is_word z then Some (Except z) else None) ≡ kept_from least greatest z
is_word-range z = by (int_lt z (pos (2 ^ 63))) (int_le z greatest) refl refl
  where
    by : (p q : Bool) → int_lt z (pos (2 ^ 63)) ≡ p → int_le z greatest ≡ q → (if is_word z then Some (Except z) else None) ≡ kept_from least greatest z
    by p q e f = ap (λ (t : Bool). if int_le least z && t then Some (Except z) else None) same
      where
        same : int_lt z (pos (2 ^ 63)) ≡ int_le z greatest
        same = grind (arith, ints)

-- whether a value lies in one of two ranges that it can't tell apart
same_range : (lo hi low high c : ℤ) → (lo ≤ℤ c → low ≤ℤ c) → (low ≤ℤ c → lo ≤ℤ c) → (c ≤ℤ hi → c ≤ℤ high) → (c ≤ℤ high → c ≤ℤ hi) → kept_from lo hi c ≡ kept_from low high c
same_range lo hi low high c f g h k = by (int_le lo c && int_le c hi) refl
  where
    below : (a b x y : ℤ) → (a ≤ℤ b → x ≤ℤ y) → (x ≤ℤ y → a ≤ℤ b) → int_le a b ≡ int_le x y
    below a b x y f g = at (int_le a b) (int_le x y) refl refl
      where
        at : (p q : Bool) → int_le a b ≡ p → int_le x y ≡ q → int_le a b ≡ int_le x y
        at true q d e = d ∙ sym (le_true x y (f (true_le a b d)))
        at false true d e = absurd (cc (le_true a b (g (true_le x y e))))
        at false false d e = d ∙ sym e

    by : (t : Bool) → (int_le lo c && int_le c hi) ≡ t → kept_from lo hi c ≡ kept_from low high c
    by t e = λ i. if below lo c low c f g i && below c hi c high h k i then Some (Except c) else None

pub less_is : (s : Shift) (by : ℤ) → s.lo ≡ int_max least (least +ℤ by) → s.hi ≡ int_min greatest (greatest +ℤ by) → s.start ≡ s.lo -ℤ by → (want : Want) → IsOfWords want → shifted s want ≡ moved by want
less_is s by e f g (Within a b) h =
    let same : by_of s ≡ by = omega (arith, ints) in
    (λ i. nonempty (int_max (a +ℤ same i) s.lo) (int_min (b +ℤ same i) s.hi)) ∙ (λ i. nonempty (less_low s.lo by a e h.0 i) (less_high s.hi by b f h.1 i))
less_is s by e f g (Except c) h =
    let same : by_of s ≡ by = omega (arith, ints) in
    let a : least ≤ℤ c = h.0 in
    let b : c ≤ℤ greatest = h.1 in
    ap (λ (z : ℤ). kept_from s.lo s.hi (c +ℤ z)) same
    ∙ same_range s.lo s.hi least greatest (c +ℤ by) (λ k. omega (arith, ints, clamps)) (λ k. omega (arith, ints, clamps)) (λ k. omega (arith, ints, clamps)) (λ k. omega (arith, ints, clamps))
    ∙ sym (is_word-range (c +ℤ by))

-- nothing goes through
pub shift_none : (s : Shift) (want : Want) → IsOfWords want → (s.hi <ℤ s.lo) ⊎ (greatest <ℤ s.start) → shifted s want ≡ None
shift_none s (Within a b) w (inl h) = none_in (int_max (a +ℤ by_of s) s.lo) (int_min (b +ℤ by_of s) s.hi) (omega (arith, ints, clamps))
shift_none s (Within a b) w (inr h) = let k : b ≤ℤ greatest = w.1 in none_in (int_max (a +ℤ by_of s) s.lo) (int_min (b +ℤ by_of s) s.hi) (omega (arith, ints, clamps))
shift_none s (Except c) w (inl h) = out s.lo s.hi (c +ℤ by_of s) h
  where
    out : (lo hi z : ℤ) → hi <ℤ lo → kept_from lo hi z ≡ None
    out lo hi z h = by (int_le lo z) refl
      where
        by : (t : Bool) → int_le lo z ≡ t → kept_from lo hi z ≡ None
        by true e = let k = true_le lo z e in out_of_range lo hi z (inr (omega (arith, ints)))
        by false e = out_of_range lo hi z (inl (false_le lo z e))
shift_none s (Except c) w (inr h) = let k : c ≤ℤ greatest = w.1 in out_of_range s.lo s.hi (c +ℤ by_of s) (inl (omega (arith, ints)))

pub fits_range : (z : ℤ) → FitsSigned w64 z → (least ≤ℤ z) × (z ≤ℤ greatest)
fits_range z h = (grind (arith, ints), grind (arith, ints))

pub greatest_end : (lo sum from x by y : ℤ) → lo ≡ int_max sum from → sum ≡ x +ℤ by → from ≡ y → FitsSigned w64 x → FitsSigned w64 y → by ≤ℤ pos (2 ^ 64) → lo ≤ℤ pos (2 ^ 66)
greatest_end lo sum from x by y e f g h k b =
    let a = fits_range x h in
    let d = fits_range y k in
    let one : x ≤ℤ greatest = a.1 in
    let two : y ≤ℤ greatest = d.1 in
    omega (arith, ints, clamps)

pub start_is : (start d lo front by near far-by near-by : ℤ) → start ≡ d -ℤ far-by → d ≡ lo -ℤ by → lo ≡ front → by ≡ near-by → far-by ≡ near → start ≡ (front -ℤ near-by) -ℤ near
start_is start d lo front by near far-by near-by e f g h k = e ∙ (λ i. (f ∙ (λ j. g j -ℤ h j)) i -ℤ k i)

pub start_above : (start d lo sum from by far : ℤ) (s : Shift) → start ≡ d -ℤ far → d ≡ lo -ℤ by → lo ≡ int_max sum from → sum ≡ s.lo +ℤ far → by ≡ by_of s → FitsSigned w64 s.start → least ≤ℤ start
start_above start d lo sum from by far s e f g h k fits =
    let one : least ≤ℤ s.start = (fits_range s.start fits).0 in
    let low : sum ≤ℤ lo = omega (arith, ints, clamps) in
    omega (arith, ints)

-- two moves
max_twice : (a one two low first lo front : ℤ) → front ≡ int_max (a +ℤ one) low → lo ≡ int_max (low +ℤ two) first → int_max (a +ℤ (one +ℤ two)) lo ≡ int_max (front +ℤ two) first
max_twice a one two low first lo front e f = omega (arith, ints, clamps)

min_twice : (b one two high first hi front : ℤ) → front ≡ int_min (b +ℤ one) high → hi ≡ int_min (high +ℤ two) first → int_min (b +ℤ (one +ℤ two)) hi ≡ int_min (front +ℤ two) first
min_twice b one two high first hi front e f = omega (arith, ints, clamps)

module _ (s first r : Shift) (low : r.lo ≡ int_max (s.lo +ℤ by_of first) first.lo) (high : r.hi ≡ int_min (s.hi +ℤ by_of first) first.hi) (from : r.start ≡ (r.lo -ℤ by_of s) -ℤ by_of first) where
  both_by : by_of r ≡ by_of s +ℤ by_of first
  both_by = omega (arith, ints)

  within_twice : (a b : ℤ) → shifted r (Within a b) ≡ shifted_twice s first (Within a b)
  within_twice a b = (λ i. nonempty (int_max (a +ℤ both_by i) r.lo) (int_min (b +ℤ both_by i) r.hi)) ∙ (λ i. nonempty (lower i) (upper i)) ∙ by (int_le one two) refl
    where
      one : ℤ
      one = int_max (a +ℤ by_of s) s.lo

      two : ℤ
      two = int_min (b +ℤ by_of s) s.hi

      lower : int_max (a +ℤ (by_of s +ℤ by_of first)) r.lo ≡ int_max (one +ℤ by_of first) first.lo
      lower = max_twice a (by_of s) (by_of first) s.lo first.lo r.lo one refl low

      upper : int_min (b +ℤ (by_of s +ℤ by_of first)) r.hi ≡ int_min (two +ℤ by_of first) first.hi
      upper = min_twice b (by_of s) (by_of first) s.hi first.hi r.hi two refl high

      closed : (p q m x y : ℤ) → q <ℤ p → int_min (q +ℤ m) y <ℤ int_max (p +ℤ m) x
      closed p q m x y h = omega (arith, ints, clamps)

      by : (t : Bool) → int_le one two ≡ t → nonempty (int_max (one +ℤ by_of first) first.lo) (int_min (two +ℤ by_of first) first.hi) ≡ and_shifted first (if t then Some (Within one two) else None)
      by true e = refl
      by false e = none_in (int_max (one +ℤ by_of first) first.lo) (int_min (two +ℤ by_of first) first.hi) (closed one two (by_of first) first.lo first.hi (false_le one two e))

  except_twice : (c : ℤ) → shifted r (Except c) ≡ shifted_twice s first (Except c)
  except_twice c = ap (λ (z : ℤ). kept_from r.lo r.hi z) far ∙ by (int_le s.lo near && int_le near s.hi) refl
    where
      near : ℤ
      near = c +ℤ by_of s

      far : c +ℤ by_of r ≡ near +ℤ by_of first
      far = omega (arith, ints, both_by)

      there : (lo x y m a z : ℤ) → lo ≡ int_max (x +ℤ m) y → a ≡ z +ℤ m → x ≤ℤ z → (lo ≤ℤ a → y ≤ℤ a) × (y ≤ℤ a → lo ≤ℤ a)
      there lo x y m a z e f h = (λ k. omega (arith, ints, clamps), λ k. omega (arith, ints, clamps))

      here : (hi x y m a z : ℤ) → hi ≡ int_min (x +ℤ m) y → a ≡ z +ℤ m → z ≤ℤ x → (a ≤ℤ hi → a ≤ℤ y) × (a ≤ℤ y → a ≤ℤ hi)
      here hi x y m a z e f h = (λ k. omega (arith, ints, clamps), λ k. omega (arith, ints, clamps))

      less : (lo x y m a z : ℤ) → lo ≡ int_max (x +ℤ m) y → a ≡ z +ℤ m → z <ℤ x → a <ℤ lo
      less lo x y m a z e f h = omega (arith, ints, clamps)

      more : (hi x y m a z : ℤ) → hi ≡ int_min (x +ℤ m) y → a ≡ z +ℤ m → x <ℤ z → hi <ℤ a
      more hi x y m a z e f h = omega (arith, ints, clamps)

      out : (int_le s.lo near ≡ false) ⊎ (int_le near s.hi ≡ false) → ((near +ℤ by_of first) <ℤ r.lo) ⊎ (r.hi <ℤ (near +ℤ by_of first))
      out (inl e) = inl (less r.lo s.lo first.lo (by_of first) (near +ℤ by_of first) near low refl (false_le s.lo near e))
      out (inr e) = inr (more r.hi s.hi first.hi (by_of first) (near +ℤ by_of first) near high refl (false_le near s.hi e))

      by : (t : Bool) → (int_le s.lo near && int_le near s.hi) ≡ t → kept_from r.lo r.hi (near +ℤ by_of first) ≡ and_shifted first (if t then Some (Except near) else None)
      by true e =
          let parts = both (int_le s.lo near) (int_le near s.hi) e in
          let one = there r.lo s.lo first.lo (by_of first) (near +ℤ by_of first) near low refl (true_le s.lo near parts.0) in
          let two = here r.hi s.hi first.hi (by_of first) (near +ℤ by_of first) near high refl (true_le near s.hi parts.1) in
          same_range r.lo r.hi first.lo first.hi (near +ℤ by_of first) one.0 one.1 two.0 two.1
      by false e = out_of_range r.lo r.hi (near +ℤ by_of first) (out (either (int_le s.lo near) (int_le near s.hi) e))

  pub behind_is : (want : Want) → shifted r want ≡ shifted_twice s first want
  behind_is (Within a b) = within_twice a b
  behind_is (Except c) = except_twice c
