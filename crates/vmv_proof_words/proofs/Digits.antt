-- Numbers and their digits.
use Rattle.std.proofs.Common.{◌≡◌, ◌≢◌, ◌⊎◌, inl, inr, ℕ, zero, suc, ◌-◌, ◌<◌, ◌≤◌, ◌^◌, true, ℤ, pos, negsuc, Ok, Err, List, [], ◌∷◌, length, refl, sym, ap, subst, ◌∙◌, IsTrue, arith, rules}
use Rattle.std.specs.Prelude.{not, neg_ℤ, codes, slice_index, int_lt}
use Rattle.std.specs.Fmt.{decimal, signed_decimal, digits}
use Rattle.std.specs.Char.{is_ascii_digit}
use Rattle.std.specs.List.{list_all}
use Rattle.std.specs.Str.{IsUtf8}
use Rattle.std.specs.Str.Parse.{ParsesUnsigned, digits_value}
use Rattle.std.specs.declared.num.ParseIntError.{ParseIntError}
use Rattle.std.proofs.lemmas.Bool.{and_from, ne_eqb, cases_lt}
use Rattle.std.proofs.lemmas.Fmt.{digits_decimal, decimal_nonempty, first_decimal, decimal_digit, decimal_is_IsNumeral_wide, decimal-digits_value, parse-decimal, IsAscii-from_digits}
use Rattle.std.proofs.lemmas.Str.{IsUtf8-from_ascii}
use Rattle.std.proofs.lemmas.Str.Parse.{IsNumeralModel, numerals_by_value, IsDigitsTest, parse_digits}
use Rattle.std.proofs.lemmas.Int.{ints}
use Rattle.vmv_witness.specs.Numbers.{IsNatural, IsNumber}
use Rattle.vmv_witness.specs.Reading.{lacks}
use Rattle.vmv_proof_words.specs.Words.{Word}
use Rattle.vmv_proof_words.specs.Taking.{IsNaturalWord, IsBetween, IsBoundWord, IsEndWord}

abbrev AreDigits : List ℕ → Type 0
AreDigits ds = list_all is_ascii_digit ds ≡ true

test : IsDigitsTest AreDigits
test = search rules

own : IsNumeralModel AreDigits (digits_value 10)
own = numerals_by_value AreDigits test

one_digit : (n : ℕ) → n < 2 ^ 64 → slice_index (decimal n) 0 ≡ 48 → length (decimal n) ≡ 1
one_digit zero h e = ap length (decimal_digit 0 (omega arith))
one_digit (suc m) h e = absurd (omega (arith, first_decimal (suc m) (omega arith) h))

decimal_natural : (n : ℕ) → n < 2 ^ 64 → IsNatural (decimal n)
decimal_natural n h = (digits_decimal own n h, decimal_nonempty n h, one_digit n h)

pub natural_utf8 : (ds : List ℕ) → IsNatural ds → IsUtf8 ds
natural_utf8 ds natural = IsUtf8-from_ascii ds (IsAscii-from_digits ds (own.to ds natural.0))

pub natural_read : (ds : List ℕ) (n : ℕ) → IsNatural ds → ParsesUnsigned {E = ParseIntError} 64 10 ds (Ok n) → IsNaturalWord 64 n ds
natural_read ds n natural h =
    let r = parse_digits own {E = ParseIntError} 64 ds (Ok n) h natural.0 in
    let e = decimal-digits_value own ds natural.0 natural.1 natural.2 (omega (arith, r.0.1)) in
    (omega (arith, r.0.1, r.1), sym e ∙ sym (ap decimal r.1))

pub natural_not_read : (ds : List ℕ) (e : ParseIntError) → ParsesUnsigned 64 10 ds (Err e) → (n : ℕ) → IsNaturalWord 64 n ds → ⊥
natural_not_read ds e h n k = let s = parse-decimal 64 n ds (Err e) k.0 (omega (arith, k.0)) k.1 h in cc

pub not_natural : (ds : List ℕ) → (IsNatural ds → ⊥) → (n : ℕ) → IsNaturalWord 64 n ds → ⊥
not_natural ds h n k = h (subst IsNatural (sym k.1) (decimal_natural n (omega (arith, k.0))))

pub no_minus : (n : ℕ) (ds : List ℕ) → n < 2 ^ 64 → 45 ∷ ds ≡ decimal n → ⊥
no_minus n ds h e =
    let d : AreDigits (45 ∷ ds) = subst AreDigits (sym e) (digits_decimal own n h) in
    omega (arith, (test.parts 45 ds d).0.0)

pub widest : decimal (2 ^ 64) ≡ codes "18446744073709551616"
unfolding digits
widest = refl

-- a negative number's digits are told
pub below_read : (ds : List ℕ) (n : ℕ) → IsNaturalWord 64 n ds → (n ≡ 0 → ⊥) → (z : ℤ) → z ≡ neg_ℤ (pos n) → IsBoundWord z (45 ∷ ds)
below_read ds zero h some z e = absurd (some refl)
below_read ds (suc m) h some z e =
    (subst IsBetween (sym e) (record { low = omega (arith, ints, h.0); high = omega (arith, ints) }), ap (λ t. 45 ∷ t) h.1 ∙ sym (ap signed_decimal e))

pub lowest_read : (ds : List ℕ) → ds ≡ codes "18446744073709551616" → IsBoundWord (negsuc (2 ^ 64 - 1)) (45 ∷ ds)
lowest_read ds e = (record { low = omega (arith, ints); high = omega (arith, ints) }, ap (λ t. 45 ∷ t) (e ∙ sym widest))

between_below : (n : ℕ) → IsBetween (pos n) → n < 2 ^ 64
between_below n h = omega (arith, ints, h.high)

between_above : (n : ℕ) → IsBetween (negsuc n) → n < 2 ^ 64
between_above n h = omega (arith, ints, h.low)

-- no negative number is told by other digits
pub below_not_read : (ds : List ℕ) → (ds ≡ codes "18446744073709551616" → ⊥) → ((n : ℕ) → IsNaturalWord 64 (suc n) ds → ⊥) → (z : ℤ) → IsBoundWord z (45 ∷ ds) → ⊥
below_not_read ds wide none (pos n) h = no_minus n ds (between_below n h.0) h.1
below_not_read ds wide none (negsuc n) h =
    let same : ds ≡ decimal (suc n) = cc in
    let small = between_above n h.0 in
    wide (same ∙ (ap decimal {x = suc n} {y = 2 ^ 64} (least n small (λ less. none n (less, same))) ∙ widest))
  where
    least : (n : ℕ) → n < 2 ^ 64 → (suc n < 2 ^ 64 → ⊥) → suc n ≡ 2 ^ 64
    least n small h = omega arith

pub above_read : (ds : List ℕ) (n : ℕ) → IsNaturalWord 64 n ds → (z : ℤ) → z ≡ pos n → IsBoundWord z ds
above_read ds n h z e = (subst IsBetween (sym e) (record { low = omega (arith, ints); high = omega (arith, ints, h.0) }), h.1 ∙ sym (ap signed_decimal e))

pub above_not_read : (ds : List ℕ) → ((rest : List ℕ) → ds ≡ 45 ∷ rest → ⊥) → ((n : ℕ) → IsNaturalWord 64 n ds → ⊥) → (z : ℤ) → IsBoundWord z ds → ⊥
above_not_read ds other none (pos n) h = none n (between_below n h.0, h.1)
above_not_read ds other none (negsuc n) h = other (decimal (suc n)) h.1

digits_lack : (b : ℕ) → (b < 48) ⊎ (57 < b) → (ds : List ℕ) → AreDigits ds → lacks b ds ≡ true
digits_lack b h [] k = refl
digits_lack b h (c ∷ cs) k =
    let parts = test.parts c cs k in
    and_from _ (lacks b cs) (ap not (ne_eqb c b (λ e. other b c h parts.0.0 parts.0.1 e))) (digits_lack b h cs parts.1)
  where
    other : (b c : ℕ) → (b < 48) ⊎ (57 < b) → 48 ≤ c → c ≤ 57 → c ≡ b → ⊥
    other b c (inl l) low high e = omega arith
    other b c (inr l) low high e = omega arith

widen : (b : ℕ) → (b < 45) ⊎ (57 < b) → (b < 48) ⊎ (57 < b)
widen b (inl l) = inl (omega arith)
widen b (inr l) = inr l

no_sign : (b : ℕ) → (b < 45) ⊎ (57 < b) → 45 ≡ b → ⊥
no_sign b (inl l) e = omega arith
no_sign b (inr l) e = omega arith

-- a byte that is no digit and no minus stands in no number
pub number_lacks : (b : ℕ) → (b < 45) ⊎ (57 < b) → (bytes : List ℕ) → IsNumber bytes → IsTrue (lacks b bytes)
number_lacks b h bytes (inl natural) = digits_lack b (widen b h) bytes natural.0
number_lacks b h bytes (inr (ds, e, natural, some)) =
    subst (λ x. IsTrue (lacks b x)) (sym e)
    (and_from _ (lacks b ds) (ap not (ne_eqb 45 b (λ same. no_sign b h same))) (digits_lack b (widen b h) ds natural.0))

decimal_once : (m n : ℕ) → m < 10 ^ 64 → n < 10 ^ 64 → decimal m ≡ decimal n → m ≡ n
decimal_once m n p q e = sym (decimal_is_IsNumeral_wide m p).1 ∙ (ap (digits_value 10) e ∙ (decimal_is_IsNumeral_wide n q).1)

-- a word tells one number
pub natural_once : (m n : ℕ) (word : Word) → IsNaturalWord 64 m word → IsNaturalWord 64 n word → m ≡ n
natural_once m n word h k = decimal_once m n (omega (arith, h.0)) (omega (arith, k.0)) (sym h.1 ∙ k.1)

signed_once : (y z : ℤ) → IsBetween y → IsBetween z → signed_decimal y ≡ signed_decimal z → y ≡ z
signed_once (pos m) (pos n) h k e = ap pos (decimal_once m n (omega (arith, between_below m h)) (omega (arith, between_below n k)) e)
signed_once (pos m) (negsuc n) h k e = absurd (no_minus m (decimal (suc n)) (between_below m h) (sym e))
signed_once (negsuc m) (pos n) h k e = absurd (no_minus n (decimal (suc m)) (between_below n k) e)
signed_once (negsuc m) (negsuc n) h k e =
    let same : decimal (suc m) ≡ decimal (suc n) = cc in
    ap negsuc (omega (arith, decimal_once (suc m) (suc n) (omega (arith, between_above m h)) (omega (arith, between_above n k)) same))

pub bound_once : (y z : ℤ) (word : Word) → IsBoundWord y word → IsBoundWord z word → y ≡ z
bound_once y z word h k = signed_once y z h.0 k.0 (sym h.1 ∙ k.1)

pub end_is_bound : (z : ℤ) (word : Word) → IsEndWord z word → IsBoundWord z word
end_is_bound z word h = (record { low = grind (arith, ints, h.0); high = grind (arith, ints, h.0) }, h.1)

pub count_is_natural : (n : ℕ) (word : Word) → IsNaturalWord 32 n word → IsNaturalWord 64 n word
count_is_natural n word h = (omega (arith, h.0), h.1)

-- a number past 32 bits is none of 32 bits
pub count_not_read : (word : Word) (m : ℕ) → IsNaturalWord 64 m word → 2 ^ 32 - 1 < m → (n : ℕ) → IsNaturalWord 32 n word → ⊥
count_not_read word m h large n k = omega (arith, natural_once m n word h (count_is_natural n word k), k.0)

pub low_end_not_read : (word : Word) (y : ℤ) → IsBoundWord y word → int_lt y (negsuc (2 ^ 63 - 1)) ≡ true → (z : ℤ) → IsEndWord z word → ⊥
low_end_not_read word y h low z k = let e = bound_once y z word h (end_is_bound z word k) in grind (arith, ints, k.0)

pub high_end_not_read : (word : Word) (y : ℤ) → IsBoundWord y word → int_lt (pos (2 ^ 63 - 1)) y ≡ true → (z : ℤ) → IsEndWord z word → ⊥
high_end_not_read word y h high z k = let e = bound_once y z word h (end_is_bound z word k) in grind (arith, ints, k.0)

pub zero_not_read : (word : Word) (m : ℕ) → IsNaturalWord 64 m word → m ≡ 0 → (n : ℕ) → IsNaturalWord 64 (suc n) word → ⊥
zero_not_read word m h e n k = omega (arith, e, natural_once m (suc n) word h k)

pub natural_number : (n : ℕ) → n < 2 ^ 64 → IsNumber (decimal n)
natural_number n h = inl (decimal_natural n h)

wide_digits : (n : ℕ) → n < 10 ^ 64 → AreDigits (decimal n)
wide_digits n h = own.from (decimal n) (decimal_is_IsNumeral_wide n h).0.1

wide_natural : (n : ℕ) → n < 2 ^ 64 → IsNatural (decimal (suc n))
wide_natural n small = by (cases_lt (suc n) (2 ^ 64))
  where
    by : (suc n < 2 ^ 64) ⊎ (2 ^ 64 ≤ suc n) → IsNatural (decimal (suc n))
    by (inl less) = decimal_natural (suc n) less
    by (inr most) = subst IsNatural (sym (ap decimal {x = suc n} {y = 2 ^ 64} (omega arith) ∙ widest)) (refl, omega arith, λ e. absurd (omega arith))

wide_some : (n : ℕ) → n < 2 ^ 64 → decimal (suc n) ≢ codes "0"
wide_some n small e =
    let zero_is : decimal 0 ≡ codes "0" = decimal_digit 0 (omega arith) in
    omega (arith, decimal_once (suc n) 0 (omega arith) (omega arith) (e ∙ sym zero_is))

pub bound_number : (z : ℤ) → IsBetween z → IsNumber (signed_decimal z)
bound_number (pos n) h = inl (decimal_natural n (between_below n h))
bound_number (negsuc n) h = inr (decimal (suc n), refl, wide_natural n (between_above n h), wide_some n (between_above n h))

-- an end is a number
pub end_number : (z : ℤ) (word : Word) → IsEndWord z word → IsNumber word
end_number z word h = subst IsNumber (sym h.1) (bound_number z (end_is_bound z word h).0)

-- a word tells one end
pub end_once : (y z : ℤ) (word : Word) → IsEndWord y word → IsEndWord z word → y ≡ z
end_once y z word h k = bound_once y z word (end_is_bound y word h) (end_is_bound z word k)
