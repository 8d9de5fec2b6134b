-- Bounds are told once, and are spelled as numbers.
use Rattle.std.proofs.Common.{◌≡◌, ◌≢◌, ◌⊎◌, inl, inr, ℕ, suc, ◌<◌, ◌≤◌, ◌^◌, ℤ, pos, negsuc, refl, sym, ap, subst, ◌∙◌, arith}
use Rattle.std.specs.Prelude.{codes}
use Rattle.std.specs.Fmt.{decimal, signed_decimal}
use Rattle.std.specs.Str.Parse.{digits_value}
use Rattle.std.proofs.lemmas.Bool.{cases_lt}
use Rattle.std.proofs.lemmas.Int.{ints}
use Rattle.std.proofs.lemmas.Fmt.{decimal_is_IsNumeral_wide}
use Rattle.vmv_zone.specs.Bounds.{IsInReach}
use Rattle.vmv_witness.specs.Numbers.{IsNatural, IsNumber}
use Rattle.vmv_proof_words.specs.Taking.{IsBetween}
use Rattle.vmv_proof_words.proofs.Digits.{bound_once, natural_number, no_minus, widest}

between : (z : ℤ) → IsInReach z → IsBetween z
between z h = record { low = h.low; high = h.high }

pub reach_once : (y z : ℤ) → IsInReach y → IsInReach z → signed_decimal y ≡ signed_decimal z → y ≡ z
reach_once y z h k e = bound_once y z (signed_decimal y) (between y h, refl) (between z k, e)

natural_only : (n : ℕ) → n < 2 ^ 64 → IsNumber (decimal n) → IsNatural (decimal n)
natural_only n small (inl natural) = natural
natural_only n small (inr (ds, e, natural, some)) = absurd (no_minus n ds small (sym e))

wide_natural : (n : ℕ) → n ≤ 2 ^ 64 → IsNatural (decimal n)
wide_natural n small = by (cases_lt n (2 ^ 64))
  where
    by : (n < 2 ^ 64) ⊎ (2 ^ 64 ≤ n) → IsNatural (decimal n)
    by (inl less) = natural_only n less (natural_number n less)
    by (inr most) = subst IsNatural (sym (ap decimal {x = n} {y = 2 ^ 64} (omega arith) ∙ widest)) (refl, omega arith, λ e. absurd (omega arith))

-- no other number is spelled as 0 is
pub some_word : (n : ℕ) → 0 < n → n ≤ 2 ^ 64 → decimal n ≢ codes "0"
some_word n some small e =
    let value : n ≡ 0 = sym (decimal_is_IsNumeral_wide n (omega arith)).1 ∙ ap (digits_value 10) e in
    omega arith

pub reach_number : (z : ℤ) → IsInReach z → IsNumber (signed_decimal z)
reach_number (pos n) h = natural_number n (omega (arith, ints, h.high))
reach_number (negsuc n) h =
    let small : suc n ≤ 2 ^ 64 = omega (arith, ints, h.low) in
    inr (decimal (suc n), refl, wide_natural (suc n) small, some_word (suc n) (omega arith) small)
