-- A quotient of words is a word but for the least word by -1.
use Rattle.std.proofs.Common.{◌≡◌, ◌≢◌, inl, inr, ⊎_elim, ℕ, suc, ◌/◌, ◌*◌, ◌≤◌, ◌^◌, ◌-◌, ℤ, pos, negsuc, ◌≤ℤ◌, FitsSigned, arith, refl, sym}
use Rattle.std.specs.Prelude.{int_div}
use Rattle.std.specs.Int.{w64, int_min}
use Rattle.std.proofs.Math.Nat.{div-mul-le_self, div-le_self}
use Rattle.std.proofs.lemmas.Int.{ints, clamps}
use Rattle.vmv_zone.specs.Ends.{IsEnd, IsEndQuotient}
use Rattle.vmv_step.specs.Fails.{IsLeastByMinusOne}

-- a quotient is as great as the greatest dividend only for the divisor 1
whole_quotient : (a d q : ℕ) → 1 ≤ d → a ≤ 2 ^ 63 → a / d ≡ q → 2 ^ 63 ≤ q → (a ≡ 2 ^ 63) × (d ≡ 1)
whole_quotient a d q from few e big =
    let m : q * d ≤ a = rw (sym e) (div-mul-le_self a d) in
    let n : a / d ≤ a = div-le_self a d in
    let a_is : a ≡ 2 ^ 63 = omega arith in
    let q_is : q ≡ 2 ^ 63 = omega arith in
    let m' : 2 ^ 63 * d ≤ a = rw q_is at m in
    (a_is, omega arith)

-- a quotient that is no word, or 2^63, is that of the least word by -1
pub edge_quotient : (x y : ℤ) → FitsSigned w64 x → y ≢ pos 0 → (FitsSigned w64 (int_div x y) → ⊥) → (x ≡ negsuc (2 ^ 63 - 1)) × (y ≡ negsuc 0)
edge_quotient (pos a) (pos b) fits off none = let n = div-le_self a b in absurd (none (omega (arith, ints)))
edge_quotient (pos a) (negsuc b) fits off none = let n = div-le_self a (suc b) in absurd (none (omega (arith, ints)))
edge_quotient (negsuc a) (pos b) fits off none = let n = div-le_self (suc a) b in absurd (none (omega (arith, ints)))
edge_quotient (negsuc a) (negsuc b) fits off none =
    let n = div-le_self (suc a) (suc b) in
    let few : suc a ≤ 2 ^ 63 = omega (arith, ints) in
    let big : 2 ^ 63 ≤ suc a / suc b = grind (arith, ints) in
    let is = whole_quotient (suc a) (suc b) (suc a / suc b) (omega arith) few refl big in
    let is0 = is.0 in let is1 = is.1 in
    (omega (arith, ints), omega (arith, ints))

pub top_quotient : (x y : ℤ) → FitsSigned w64 x → y ≢ pos 0 → pos (2 ^ 63) ≡ int_div x y → (x ≡ negsuc (2 ^ 63 - 1)) × (y ≡ negsuc 0)
top_quotient x y fits off e = edge_quotient x y fits off (λ h. omega (arith, ints))

end_between : (a b e : ℤ) → a ≤ℤ b → IsEnd a b e → (a ≤ℤ e) × (e ≤ℤ b)
end_between a b e order is = ⊎_elim (λ (at : e ≡ a). (omega (arith, ints), omega (arith, ints))) (λ (at : e ≡ b). (omega (arith, ints), omega (arith, ints))) is

-- a quotient of ends is 2^63 where the least word may be divided by -1, and only there
pub edge_of_ends : (a b c d : ℤ) → FitsSigned w64 a → FitsSigned w64 b → a ≤ℤ b → c ≤ℤ d → IsEndQuotient a b c d (pos (2 ^ 63)) → IsLeastByMinusOne a c d
edge_of_ends a b c d fa fb order order' q =
    ⊎_elim
    (λ part.
    let r = part.1 in
    let negative = part.0 in
    let fits : FitsSigned w64 r.left = ⊎_elim (λ (at : r.left ≡ a). rw at fa) (λ (at : r.left ≡ b). rw at fb) r.left_end in
    let at_most : r.right ≤ℤ negsuc 0 = ⊎_elim (λ (at : r.right ≡ c). omega (arith, ints)) (λ (at : r.right ≡ int_min d (negsuc 0)). omega (arith, ints, clamps)) r.right_end in
    let is = top_quotient r.left r.right fits (λ e. omega (arith, ints)) r.is in
    let is0 = is.0 in let is1 = is.1 in
    let left = end_between a b r.left order r.left_end in
    let left0 = left.0 in
    let high : negsuc 0 ≤ℤ d = ⊎_elim (λ (at : r.right ≡ c). omega (arith, ints)) (λ (at : r.right ≡ int_min d (negsuc 0)). omega (arith, ints, clamps)) r.right_end in
    (omega (arith, ints), negative, high))
    (λ part.
    let r = part.1 in
    let positive = part.0 in
    let fits : FitsSigned w64 r.left = ⊎_elim (λ (at : r.left ≡ a). rw at fa) (λ (at : r.left ≡ b). rw at fb) r.left_end in
    let at_least : pos 1 ≤ℤ r.right = ⊎_elim (λ at. omega (arith, ints, clamps, at)) (λ at. omega (arith, ints, at)) r.right_end in
    let is = top_quotient r.left r.right fits (λ e. omega (arith, ints)) r.is in
    let is1 = is.1 in
    absurd (omega (arith, ints)))
    q

pub ends_of_edge : (a b c d : ℤ) → IsLeastByMinusOne a c d → IsEndQuotient a b c d (pos (2 ^ 63))
ends_of_edge a b c d edge =
    let low = edge.1 in
    let high = edge.2 in
    let least : int_min d (negsuc 0) ≡ negsuc 0 = omega (arith, ints, clamps) in
    inl (low, record { left = a; right = int_min d (negsuc 0); left_end = inl refl; right_end = inr refl; is = rw (edge.0, least) refl })
