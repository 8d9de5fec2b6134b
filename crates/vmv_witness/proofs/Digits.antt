-- Numbers and their digits.
use Rattle.std.proofs.Common.{◌≡◌, ◌≢◌, inl, inr, ℕ, zero, suc, ◌-◌, ◌<◌, ◌^◌, true, ℤ, pos, negsuc, Ok, Err, List, [], ◌∷◌, length, get_or, refl, sym, ap, subst, ◌∙◌, FitsSigned, arith, rules}
use Rattle.std.specs.Prelude.{neg_ℤ, int_le, int_lt, codes, slice_index}
use Rattle.std.specs.Int.{w64}
use Rattle.std.specs.Int.Signed.{mag}
use Rattle.std.specs.Fmt.{decimal, signed_decimal}
use Rattle.std.specs.Char.{is_ascii_digit}
use Rattle.std.specs.List.{list_all}
use Rattle.std.specs.Str.{IsAscii, IsUtf8}
use Rattle.std.specs.Str.Parse.{ParsesSigned, ParsesUnsigned, digits_value}
use Rattle.std.specs.declared.num.ParseIntError.{ParseIntError}
use Rattle.std.proofs.lemmas.Bool.{and_parts, leb-true, ltb-true, false≢true}
use Rattle.std.proofs.lemmas.Int.{ints}
use Rattle.std.proofs.lemmas.Fmt.{digits_decimal, decimal_nonempty, first_decimal, decimal_digit, decimal-digits_value, parse-decimal, parse-signed_decimal, IsAscii-from_digits}
use Rattle.std.proofs.lemmas.List.Elements.{All-cons}
use Rattle.std.proofs.lemmas.Str.{IsUtf8-from_ascii}
use Rattle.std.proofs.lemmas.Str.Ascii.{IsAscii-from_all, All-from_ascii}
use Rattle.std.proofs.lemmas.Str.Parse.{IsNumeralModel, numerals_by_value, IsDigitsTest, parse_digits, parse_plain, parse_signed_digits, parse_signed_minus}
use Rattle.vmv_tree.specs.Words.{IsWord}
use Rattle.vmv_witness.specs.Numbers.{IsNatural, IsNumber, IsSiteNumber, IsValue}
use Rattle.vmv_witness.specs.Reading.{lacks}
use Rattle.vmv_witness.proofs.Bytes.{lacks-cons}

abbrev AreDigits : List ℕ → Type 0
AreDigits ds = list_all is_ascii_digit ds ≡ true

test : IsDigitsTest AreDigits
test = search rules

own : IsNumeralModel AreDigits (digits_value 10)
own = numerals_by_value AreDigits test

one_digit : (n : ℕ) → n < 2 ^ 64 → slice_index (decimal n) 0 ≡ 48 → length (decimal n) ≡ 1
one_digit zero h e = ap length (decimal_digit 0 (omega arith))
one_digit (suc m) h e = absurd (omega (arith, first_decimal (suc m) (omega arith) h))

decimal_natural : (n : ℕ) → n < 2 ^ 64 → IsNatural (decimal n)
decimal_natural n h = (digits_decimal own n h, decimal_nonempty n h, one_digit n h)

not_zero : (m : ℕ) → suc m < 2 ^ 64 → decimal (suc m) ≡ codes "0" → ⊥
not_zero m h e =
    let same : ◌≡◌ {A = ℕ} (get_or (decimal (suc m)) 0 0) 48 = ap (λ ds. get_or ds 0 0) e in
    omega (arith, first_decimal (suc m) (omega arith) h)

word_below : (n : ℕ) → IsWord (pos n) → n < 2 ^ 63
word_below n h =
    let parts = and_parts (int_le (neg_ℤ (pos (2 ^ 63))) (pos n)) (int_lt (pos n) (pos (2 ^ 63))) h in
    ltb-true n (2 ^ 63) parts.1

word_above : (n : ℕ) → IsWord (negsuc n) → n < 2 ^ 63
word_above n h =
    let parts = and_parts (int_le (neg_ℤ (pos (2 ^ 63))) (negsuc n)) (int_lt (negsuc n) (pos (2 ^ 63))) h in
    let least = leb-true n (2 ^ 63 - 1) parts.0 in
    omega arith

word_fits : (z : ℤ) → IsWord z → FitsSigned w64 z
word_fits z h = grind (arith, ints)

fits_word : (z : ℤ) → FitsSigned w64 z → IsWord z
fits_word z h = grind (arith, ints)

pub word_mag : (z : ℤ) → IsWord z → mag z < 2 ^ 63
word_mag (pos n) h = word_below n h
word_mag (negsuc n) h = word_above n h

value_number : (z : ℤ) → IsWord z → IsNumber (signed_decimal z)
value_number (pos n) h = inl (decimal_natural n (omega (arith, word_below n h)))
value_number (negsuc n) h =
    let small : suc n < 2 ^ 64 = omega (arith, word_above n h) in
    inr (decimal (suc n), refl, decimal_natural (suc n) small, not_zero n small)

-- what is in range is a number
pub value_is_number : (bytes : List ℕ) → IsValue bytes → IsNumber bytes
value_is_number bytes (z, h, e) = subst IsNumber (sym e) (value_number z h)

pub site_is_number : (bytes : List ℕ) → IsSiteNumber bytes → IsNumber bytes
site_is_number bytes (k, h, e) = subst IsNumber (sym e) (inl (decimal_natural k (omega arith)))

digits_lack : (ds : List ℕ) → AreDigits ds → lacks 10 ds ≡ true
digits_lack [] h = refl
digits_lack (c ∷ cs) h =
    let parts = test.parts c cs h in
    lacks-cons 10 c cs (λ e. omega (arith, parts.0.0)) (digits_lack cs parts.1)

-- no line ends in a number
pub number_lacks : (bytes : List ℕ) → IsNumber bytes → lacks 10 bytes ≡ true
number_lacks bytes (inl natural) = digits_lack bytes natural.0
number_lacks bytes (inr (ds, e, natural, some)) =
    subst (λ x. lacks 10 x ≡ true) (sym e) (lacks-cons 10 45 ds (λ same. omega arith) (digits_lack ds natural.0))

natural_ascii : (ds : List ℕ) → IsNatural ds → IsAscii ds
natural_ascii ds natural = IsAscii-from_digits ds (own.to ds natural.0)

pub number_utf8 : (bytes : List ℕ) → IsNumber bytes → IsUtf8 bytes
number_utf8 bytes (inl natural) = IsUtf8-from_ascii bytes (natural_ascii bytes natural)
number_utf8 bytes (inr (ds, e, natural, some)) =
    let all = All-cons (λ b. b < 128) 45 ds (omega arith) (All-from_ascii ds (natural_ascii ds natural)) in
    subst IsUtf8 (sym e) (IsUtf8-from_ascii (45 ∷ ds) (IsAscii-from_all (45 ∷ ds) all))

minus_by : (ds : List ℕ) (z : ℤ) (n : ℕ) → ds ≢ codes "0" → decimal n ≡ ds → z ≡ neg_ℤ (pos n) → 45 ∷ ds ≡ signed_decimal z
minus_by ds z zero some e s = absurd (some (sym e ∙ decimal_digit 0 (omega arith)))
minus_by ds z (suc m) some e s = ap (λ t. 45 ∷ t) (sym e) ∙ sym (ap signed_decimal s)

value_digits : (bytes : List ℕ) (z : ℤ) → IsNumber bytes → ParsesSigned {E = ParseIntError} w64 10 bytes (Ok z) → bytes ≡ signed_decimal z
value_digits bytes z (inl natural) h =
    let r = parse_signed_digits own {E = ParseIntError} w64 bytes (Ok z) h natural.0 in
    let e = decimal-digits_value own bytes natural.0 natural.1 natural.2 (omega (arith, r.0.1)) in
    sym e ∙ sym (ap signed_decimal r.1)
value_digits bytes z (inr (ds, e, natural, some)) h =
    let g = subst (λ x. ParsesSigned {E = ParseIntError} w64 10 x (Ok z)) e h in
    let r = parse_signed_minus own {E = ParseIntError} w64 (45 ∷ ds) (Ok z) g refl in
    e ∙ minus_by ds z (digits_value 10 ds) some (decimal-digits_value own ds natural.0 natural.1 natural.2 (omega (arith, r.0.2))) r.1

-- the digits of a word that was read
pub value_read : (bytes : List ℕ) (z : ℤ) → IsNumber bytes → ParsesSigned {E = ParseIntError} w64 10 bytes (Ok z) → (bytes ≡ signed_decimal z) × IsValue bytes × FitsSigned w64 z
value_read bytes z number h =
    let digits = value_digits bytes z number h in
    let fits : FitsSigned w64 z = subst (FitsSigned w64) (sym h.1) h.0.1 in
    (digits, (z, fits_word z fits, digits), fits)

-- none was read
pub value_not_read : (bytes : List ℕ) (e : ParseIntError) → ParsesSigned w64 10 bytes (Err e) → IsValue bytes → ⊥
value_not_read bytes e h (z, word, q) =
    let s = parse-signed_decimal w64 z bytes (Err e) (word_fits z word) (word_mag z word) q h in cc

site_digits : (bytes : List ℕ) (k : ℕ) → IsNumber bytes → ParsesUnsigned {E = ParseIntError} 32 10 bytes (Ok k) → (bytes ≡ decimal k) × (k < 2 ^ 32)
site_digits bytes k (inl natural) h =
    let r = parse_digits own {E = ParseIntError} 32 bytes (Ok k) h natural.0 in
    let e = decimal-digits_value own bytes natural.0 natural.1 natural.2 (omega (arith, r.0.1)) in
    (sym e ∙ sym (ap decimal r.1), omega (arith, r.0.1, r.1))
site_digits bytes k (inr (ds, e, natural, some)) h =
    let g = subst (λ x. ParsesUnsigned {E = ParseIntError} 32 10 x (Ok k)) e h in
    let r = parse_plain own {E = ParseIntError} 32 (45 ∷ ds) (Ok k) g (λ same. omega arith) in
    absurd (false≢true r.0.0)

pub site_read : (bytes : List ℕ) (k : ℕ) → IsNumber bytes → ParsesUnsigned {E = ParseIntError} 32 10 bytes (Ok k) → (bytes ≡ decimal k) × IsSiteNumber bytes
site_read bytes k number h =
    let digits = site_digits bytes k number h in
    (digits.0, (k, digits.1, digits.0))

pub site_not_read : (bytes : List ℕ) (e : ParseIntError) → ParsesUnsigned 32 10 bytes (Err e) → IsSiteNumber bytes → ⊥
site_not_read bytes e h (k, small, q) = let s = parse-decimal 32 k bytes (Err e) small (omega arith) q h in cc
