-- Products, quotients and remainders lie between those of the ends.
use Rattle.std.proofs.Common.{◌≡◌, ◌≢◌, ◌⊎◌, inl, inr, ⊎_elim, ℕ, zero, suc, ◌/◌, ◌≤◌, ◌<◌, ℤ, pos, negsuc, ◌-ℤ◌, ◌*ℤ◌, ◌≤ℤ◌, neg_ℤ, max, unsigned_abs, arith, refl, sym}
use Rattle.std.proofs.Math.Nat.{mul-le-mul_left, div-mul-le_self}
use Rattle.std.proofs.Math.IntN.{neg_ℤ-neg_ℤ}
use Rattle.std.specs.Prelude.{int_div, int_rem}
use Rattle.std.specs.Int.{int_max, int_min}
use Rattle.std.specs.Int.Signed.{mag_rem}
use Rattle.std.proofs.lemmas.Nat.{le-div}
use Rattle.std.proofs.lemmas.Int.{ints, clamps, rem_below}
use Rattle.vmv_zone.specs.Four.{least_of, greatest_of}
use Rattle.vmv_zone.specs.Ends.{IsEndResult, IsEndProduct, IsEndQuotient}
use Rattle.vmv_zone.proofs.Products.{neg_mono, product_between}
use Rattle.vmv_zone.proofs.Hulls.{hull_clean}

-- v lies between two of the numbers
pub record IsBetween (Is : ℤ → Type 0) (v : ℤ) : Type 0 where
  pub least : (q : ℤ) × (Is q × (q ≤ℤ v))
  pub greatest : (q : ℤ) × (Is q × (v ≤ℤ q))

nat_div_mono : (m k n : ℕ) → m ≤ k → m / n ≤ k / n
nat_div_mono m k zero h = grind arith
nat_div_mono m k (suc n) h = le-div (m / suc n) k (suc n) (omega arith) (omega (arith, div-mul-le_self m (suc n)))

nat_div_anti : (k n m : ℕ) → 0 < n → n ≤ m → k / m ≤ k / n
nat_div_anti k n m h l = let p = mul-le-mul_left (k / m) l in le-div (k / m) k n h (omega (arith, div-mul-le_self k m))

div_mono : (a b : ℤ) (n : ℕ) → a ≤ℤ b → int_div a (pos n) ≤ℤ int_div b (pos n)
div_mono (pos a) (pos b) n h = let m : a / n ≤ b / n = nat_div_mono a b n (omega (arith, ints)) in omega (arith, ints)
div_mono (pos a) (negsuc b) n h = absurd (omega (arith, ints))
div_mono (negsuc a) (pos b) n h = omega (arith, ints)
div_mono (negsuc a) (negsuc b) n h = neg_mono (suc a / n) (suc b / n) (nat_div_mono (suc b) (suc a) n (omega (arith, ints)))

-- y / z lies between y / c and y / d
div_between : (y : ℤ) (c d z : ℕ) → 0 < c → c ≤ z → z ≤ d →
    (int_min (int_div y (pos c)) (int_div y (pos d)) ≤ℤ int_div y (pos z)) × (int_div y (pos z) ≤ℤ int_max (int_div y (pos c)) (int_div y (pos d)))
div_between (pos y) c d z from low high =
    let one = nat_div_anti y c z from low in
    let two = nat_div_anti y z d (omega arith) high in
    (omega (arith, ints, clamps), omega (arith, ints, clamps))
div_between (negsuc y) c d z from low high =
    let one = neg_mono (suc y / c) (suc y / z) (nat_div_anti (suc y) c z from low) in
    let two = neg_mono (suc y / z) (suc y / d) (nat_div_anti (suc y) z d (omega arith) high) in
    (omega (arith, ints, clamps), omega (arith, ints, clamps))

div_negsuc : (a : ℤ) (n : ℕ) → int_div a (negsuc n) ≡ neg_ℤ (int_div a (pos (suc n)))
div_negsuc (pos a) n = refl
div_negsuc (negsuc a) n = sym (neg_ℤ-neg_ℤ _)

-- the quotient of x by a divisor of one sign lies between those of the ends
positive_between : (a b x : ℤ) (c d z : ℕ) → a ≤ℤ x → x ≤ℤ b → 0 < c → c ≤ z → z ≤ d →
    (least_of (int_div a (pos c)) (int_div a (pos d)) (int_div b (pos c)) (int_div b (pos d)) ≤ℤ int_div x (pos z)) ×
    (int_div x (pos z) ≤ℤ greatest_of (int_div a (pos c)) (int_div a (pos d)) (int_div b (pos c)) (int_div b (pos d)))
positive_between a b x c d z low high from low' high' =
    let side = div_between x c d z from low' high' in
    let ac = div_mono a x c low in
    let ad = div_mono a x d low in
    let bc = div_mono x b c high in
    let bd = div_mono x b d high in
    (omega (arith, ints, clamps, side.0), omega (arith, ints, clamps, side.1))

part_between : (a b c d x y : ℤ) → a ≤ℤ x → x ≤ℤ b → c ≤ℤ y → y ≤ℤ d → (pos 1 ≤ℤ c) ⊎ (d ≤ℤ negsuc 0) →
    (least_of (int_div a c) (int_div a d) (int_div b c) (int_div b d) ≤ℤ int_div x y) ×
    (int_div x y ≤ℤ greatest_of (int_div a c) (int_div a d) (int_div b c) (int_div b d))
part_between a b (pos c) (pos d) x (pos y) low high low' high' sign = positive_between a b x c d y low high (⊎_elim (λ (h : pos 1 ≤ℤ pos c). omega (arith, ints)) (λ (h : pos d ≤ℤ negsuc 0). absurd (omega (arith, ints))) sign) (omega (arith, ints)) (omega (arith, ints))
part_between a b (negsuc c) (negsuc d) x (negsuc y) low high low' high' sign =
    let h = positive_between a b x (suc d) (suc c) (suc y) low high (omega arith) (omega (arith, ints)) (omega (arith, ints)) in
    let ac = div_negsuc a c in
    let ad = div_negsuc a d in
    let bc = div_negsuc b c in
    let bd = div_negsuc b d in
    let xy = div_negsuc x y in
    (omega (arith, ints, clamps, h.1), omega (arith, ints, clamps, h.0))
part_between a b (pos c) (pos d) x (negsuc y) low high low' high' sign = absurd (omega (arith, ints))
part_between a b (pos c) (negsuc d) x y low high low' high' sign = absurd (omega (arith, ints))
part_between a b (negsuc c) (pos d) x y low high low' high' sign = absurd (⊎_elim (λ (h : pos 1 ≤ℤ negsuc c). omega (arith, ints)) (λ (h : pos d ≤ℤ negsuc 0). omega (arith, ints)) sign)
part_between a b (negsuc c) (negsuc d) x (pos y) low high low' high' sign = absurd (omega (arith, ints))

sign_of : (y : ℤ) → y ≢ pos 0 → (y ≤ℤ negsuc 0) ⊎ (pos 1 ≤ℤ y)
sign_of (pos zero) h = absurd (h refl)
sign_of (pos (suc n)) h = inr (omega (arith, ints))
sign_of (negsuc n) h = inl (omega (arith, ints))

-- the least and the greatest result at ends are results at ends
between_of : (op : ℤ → ℤ → ℤ) (a b c d v : ℤ) → (least_of (op a c) (op a d) (op b c) (op b d) ≤ℤ v) × (v ≤ℤ greatest_of (op a c) (op a d) (op b c) (op b d)) → IsBetween (IsEndResult op a b c d) v
between_of op a b c d v h =
    let hull = hull_clean op a b c d in
    record { least = (_, (hull.low, h.0)); greatest = (_, (hull.high, h.1)) }

pub between_products : (a b c d x y : ℤ) → a ≤ℤ x → x ≤ℤ b → c ≤ℤ y → y ≤ℤ d → IsBetween (IsEndProduct a b c d) (x *ℤ y)
between_products a b c d x y low high low' high' = between_of ◌*ℤ◌ a b c d (x *ℤ y) (product_between a b c d x y low high low' high')

pub between_quotients : (a b c d x y : ℤ) → a ≤ℤ x → x ≤ℤ b → c ≤ℤ y → y ≤ℤ d → y ≢ pos 0 → IsBetween (IsEndQuotient a b c d) (int_div x y)
between_quotients a b c d x y low high low' high' nonzero =
    ⊎_elim
    (λ (negative : y ≤ℤ negsuc 0).
    let h = between_of int_div a b c (int_min d (negsuc 0)) (int_div x y)
    (part_between a b c (int_min d (negsuc 0)) x y low high low' (omega (arith, ints, clamps)) (inr (omega (arith, ints, clamps)))) in
    record { least = (h.least.0, (inl (omega (arith, ints), h.least.1.0), h.least.1.1)); greatest = (h.greatest.0, (inl (omega (arith, ints), h.greatest.1.0), h.greatest.1.1)) })
    (λ (positive : pos 1 ≤ℤ y).
    let h = between_of int_div a b (int_max c (pos 1)) d (int_div x y)
    (part_between a b (int_max c (pos 1)) d x y low high (omega (arith, ints, clamps)) high' (inl (omega (arith, ints, clamps)))) in
    record { least = (h.least.0, (inr (omega (arith, ints), h.least.1.0), h.least.1.1)); greatest = (h.greatest.0, (inr (omega (arith, ints), h.greatest.1.0), h.greatest.1.1)) })
    (sign_of y nonzero)

-- a remainder is between 0 and the dividend, and smaller than the divisor
rem_towards : (y d : ℤ) → (int_min y (pos 0) ≤ℤ int_rem y d) × (int_rem y d ≤ℤ int_max y (pos 0))
rem_towards (pos y) d = let m = mag_rem (pos y) d in (grind (arith, ints, clamps), grind (arith, ints, clamps))
rem_towards (negsuc y) d = let m = mag_rem (negsuc y) d in (grind (arith, ints, clamps), grind (arith, ints, clamps))

pub abs_between : (c d y : ℤ) → c ≤ℤ y → y ≤ℤ d → unsigned_abs y ≤ max (unsigned_abs c) (unsigned_abs d)
abs_between c d y low high = grind (arith, ints)

pub nonzero_abs : (y : ℤ) → y ≢ pos 0 → 0 < unsigned_abs y
nonzero_abs (pos zero) h = absurd (h refl)
nonzero_abs (pos (suc n)) h = omega arith
nonzero_abs (negsuc n) h = omega arith

abs_bound : (r : ℤ) (s : ℕ) → unsigned_abs r < s → ((pos 1 -ℤ pos s) ≤ℤ r) × (r ≤ℤ (pos s -ℤ pos 1))
abs_bound (pos n) s h = (omega (arith, ints), omega (arith, ints))
abs_bound (negsuc n) s h = (omega (arith, ints), omega (arith, ints))

pub between_remainders : (a b c d x y : ℤ) → a ≤ℤ x → x ≤ℤ b → c ≤ℤ y → y ≤ℤ d → y ≢ pos 0 →
    (int_max (int_min a (pos 0)) (pos 1 -ℤ pos (max (unsigned_abs c) (unsigned_abs d))) ≤ℤ int_rem x y) ×
    (int_rem x y ≤ℤ int_min (int_max b (pos 0)) (pos (max (unsigned_abs c) (unsigned_abs d)) -ℤ pos 1))
between_remainders a b c d x y low high low' high' nonzero =
    let toward = rem_towards x y in
    let less = rem_below x y (nonzero_abs y nonzero) in
    let size = abs_between c d y low' high' in
    let bound = abs_bound (int_rem x y) (max (unsigned_abs c) (unsigned_abs d)) (omega (arith, less, size)) in
    (omega (arith, ints, clamps, toward.0, bound.0), omega (arith, ints, clamps, toward.1, bound.1))
