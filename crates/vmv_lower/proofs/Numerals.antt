-- The name of a temporary is a name.
use Rattle.std.proofs.Common.{◌≡◌, ℕ, zero, suc, ◌+◌, ◌/◌, ◌%◌, ◌-◌, ◌^◌, ◌<◌, ◌≤◌, Bool, true, false, eqb, List, [], ◌∷◌, ◌++◌, length, refl, sym, ap, arith, ◌∙◌}
use Rattle.std.specs.Prelude.{◌&&◌, nat_le, codes}
use Rattle.std.specs.List.{list_all}
use Rattle.std.specs.Str.Parse.{AllDigits}
use Rattle.std.specs.Fmt.{decimal, digits_onto, digit_glyph}
use Rattle.std.proofs.Math.Nat.{pow-suc, div-lt_iff_lt-mul}
use Rattle.std.proofs.lemmas.Bool.{eqb-true, le-leb}
use Rattle.std.proofs.lemmas.Fmt.{decimal_is_IsNumeral, length-decimal-le}
use Rattle.std.proofs.DigitsParse.{digits_onto-nil, digits_onto_last, digits_onto_step}
use Rattle.std.proofs.lemmas.Str.Parse.{digit_from_value}
use Rattle.vmv_tree.specs.Names.{is_name, is_name_byte}
use Rattle.vmv_surface.specs.Temporaries.{numeral}

-- either this is the last digit or there are more
by_digit : {P : Type 0} (n : ℕ) → (n / 10 ≡ 0 → P) → ((n / 10 ≡ 0 → ⊥) → P) → P
by_digit {P} n last next = either (eqb (n / 10) 0) refl
  where
    either : (b : Bool) → eqb (n / 10) 0 ≡ b → P
    either true e = last (eqb-true (n / 10) 0 e)
    either false e = next (λ z. let t : eqb (n / 10) 0 ≡ true = rw z refl in absurd (cc))

-- how many digits are asked for doesn't matter, where there are enough of them
enough : (j k n : ℕ) (acc : List ℕ) → n < 10 ^ j → n < 10 ^ k → digits_onto (suc j) 10 false n acc ≡ digits_onto (suc k) 10 false n acc
enough zero k n acc small less =
    let none : n / 10 ≡ 0 = omega (arith, small) in
    digits_onto_last 10 false n acc 1 (omega arith) none ∙ sym (digits_onto_last 10 false n acc (suc k) (omega arith) none)
enough (suc j) zero n acc small less =
    let none : n / 10 ≡ 0 = omega (arith, less) in
    digits_onto_last 10 false n acc (suc (suc j)) (omega arith) none ∙ sym (digits_onto_last 10 false n acc 1 (omega arith) none)
enough (suc j) (suc k) n acc small less =
    by_digit n
    (λ z. digits_onto_last 10 false n acc (suc (suc j)) (omega arith) z ∙ sym (digits_onto_last 10 false n acc (suc (suc k)) (omega arith) z))
    (λ z.
    step (suc j) z
    ∙ (enough j k (n / 10) (digit_glyph false (n % 10) ∷ acc) (tenth j small) (tenth k less) ∙ sym (step (suc k) z)))
  where
    tenth : (i : ℕ) → n < 10 ^ suc i → n / 10 < 10 ^ i
    tenth i h = let e = pow-suc 10 i in (div-lt_iff_lt-mul {k = 10} {x = n} {y = 10 ^ i} (omega arith)).1 (omega (arith, h, e))

    step : (i : ℕ) → (n / 10 ≡ 0 → ⊥) → digits_onto (suc i) 10 false n acc ≡ digits_onto i 10 false (n / 10) (digit_glyph false (n % 10) ∷ acc)
    step i z =
        digits_onto_step 10 false n acc (suc i) (omega arith) z
        ∙ ap (λ (m : ℕ). digits_onto m 10 false (n / 10) (digit_glyph false (n % 10) ∷ acc)) {x = suc i - 1} {y = i} (omega arith)

below_power : (n : ℕ) → n < 10 ^ n
below_power zero = let e : 10 ^ 0 ≡ 1 = refl in omega (arith, e)
below_power (suc n) = let e = pow-suc 10 n in let h = below_power n in omega (arith, e, h)

pub numeral-decimal : (n : ℕ) → n < 2 ^ 64 → numeral n ≡ decimal n
numeral-decimal n small =
    ap (λ (k : ℕ). digits_onto k 10 false n []) {x = n + 1} {y = suc n} (omega arith)
    ∙ (enough n 63 n [] (below_power n) (omega (arith, small)) ∙ digits_onto-nil 10 false n)

digit_byte : (c : ℕ) → 48 ≤ c → c ≤ 57 → is_name_byte c ≡ true
digit_byte c low high = grind arith

digit_bytes : (ds : List ℕ) → AllDigits 10 ds → list_all is_name_byte ds ≡ true
digit_bytes [] d = refl
digit_bytes (c ∷ ds) d =
    let h = digit_from_value c d.0 in
    let e = digit_byte c (omega (arith, h)) (omega (arith, h)) in
    let r = digit_bytes ds d.1 in
    ap (λ b. b && list_all is_name_byte ds) e ∙ r

pub temporary_name : (n : ℕ) → n < 2 ^ 64 → is_name (codes "__" ++ decimal n) ≡ true
temporary_name n small =
    let short : nat_le (length (codes "__" ++ decimal n)) 64 ≡ true = le-leb _ 64 (omega (arith, length-decimal-le 20 n (omega arith) (omega (arith, small)) (omega (arith, small)))) in
    let bytes = digit_bytes (decimal n) (decimal_is_IsNumeral n small).0.1 in
    rw short (rw bytes refl)
