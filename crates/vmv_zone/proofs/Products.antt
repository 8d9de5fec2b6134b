-- Products and quotients lie between those of the ends.
use Rattle.std.proofs.Common.{◌≡◌, ℕ, suc, ◌*◌, ◌≤◌, ℤ, pos, negsuc, ◌*ℤ◌, ◌≤ℤ◌, neg_ℤ, arith, refl, sym}
use Rattle.std.proofs.Math.Nat.{mul-le-mul_right}
use Rattle.std.proofs.Math.IntN.{*ℤ_comm, neg_ℤ-neg_ℤ}
use Rattle.std.specs.Int.{int_max, int_min}
use Rattle.vmv_zone.specs.Four.{least_of, greatest_of}
use Rattle.std.proofs.lemmas.Int.{ints, clamps}

pub neg_mono : (m n : ℕ) → n ≤ m → neg_ℤ (pos m) ≤ℤ neg_ℤ (pos n)
neg_mono m n h = omega (arith, ints)

pub mul_mono : (a b : ℤ) (n : ℕ) → a ≤ℤ b → (a *ℤ pos n) ≤ℤ (b *ℤ pos n)
mul_mono (pos a) (pos b) n h = let m : a * n ≤ b * n = mul-le-mul_right n (omega (arith, ints)) in omega (arith, ints)
mul_mono (pos a) (negsuc b) n h = absurd (omega (arith, ints))
mul_mono (negsuc a) (pos b) n h = omega (arith, ints)
mul_mono (negsuc a) (negsuc b) n h = let m : suc b * n ≤ suc a * n = mul-le-mul_right n (omega (arith, ints)) in neg_mono (suc a * n) (suc b * n) m

pub mul_negsuc : (a : ℤ) (n : ℕ) → a *ℤ negsuc n ≡ neg_ℤ (a *ℤ pos (suc n))
mul_negsuc (pos a) n = refl
mul_negsuc (negsuc a) n = sym (neg_ℤ-neg_ℤ (pos (suc a * suc n)))

-- y * z lies between a * z and b * z
pub mul_between : (a b y z : ℤ) → a ≤ℤ y → y ≤ℤ b → (int_min (a *ℤ z) (b *ℤ z) ≤ℤ (y *ℤ z)) × ((y *ℤ z) ≤ℤ int_max (a *ℤ z) (b *ℤ z))
mul_between a b y (pos n) low high =
    let one = mul_mono a y n low in
    let two = mul_mono y b n high in
    (omega (arith, ints, clamps), omega (arith, ints, clamps))
mul_between a b y (negsuc n) low high =
    let one = mul_mono a y (suc n) low in
    let two = mul_mono y b (suc n) high in
    let ea = mul_negsuc a n in
    let eb = mul_negsuc b n in
    let ey = mul_negsuc y n in
    (omega (arith, ints, clamps), omega (arith, ints, clamps))

-- y * z lies between the least and the greatest of the four products of ends
pub product_between : (a b c d y z : ℤ) → a ≤ℤ y → y ≤ℤ b → c ≤ℤ z → z ≤ℤ d →
    (least_of (a *ℤ c) (a *ℤ d) (b *ℤ c) (b *ℤ d) ≤ℤ (y *ℤ z)) × ((y *ℤ z) ≤ℤ greatest_of (a *ℤ c) (a *ℤ d) (b *ℤ c) (b *ℤ d))
product_between a b c d y z low high low' high' =
    let side = mul_between a b y z low high in
    let at_a = rw (*ℤ_comm c a, *ℤ_comm d a, *ℤ_comm z a) at (mul_between c d z a low' high') in
    let at_b = rw (*ℤ_comm c b, *ℤ_comm d b, *ℤ_comm z b) at (mul_between c d z b low' high') in
    (omega (arith, ints, clamps), omega (arith, ints, clamps))
