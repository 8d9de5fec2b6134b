-- A number whose digits are those of a small number is small.
use Rattle.std.proofs.Common.{◌≡◌, ℕ, zero, suc, ◌+◌, ◌*◌, ◌/◌, ◌%◌, ◌-◌, ◌^◌, ◌<◌, ◌≤◌, Bool, true, false, eqb, ℤ, pos, negsuc, List, [], ◌∷◌, length, drop, map, refl, sym, ap, subst, arith, ◌∙◌}
use Rattle.std.specs.Prelude.{IsTrue}
use Rattle.std.specs.List.{AllByRecursion}
use Rattle.std.specs.Str.Parse.{AllDigits}
use Rattle.std.specs.Fmt.{decimal, signed_decimal, digits_onto, digit_glyph}
use Rattle.std.proofs.Math.Nat.{pow-suc, div-lt_iff_lt-mul}
use Rattle.std.proofs.lemmas.Bool.{eqb-true}
use Rattle.std.proofs.lemmas.Fmt.{decimal_injective, decimal_is_IsNumeral_wide, length-decimal-le}
use Rattle.std.proofs.DigitsParse.{digits_onto-nil, digits_onto_last, digits_onto_step}
use Rattle.std.proofs.lemmas.Str.Parse.{digit_from_value}
use Rattle.vmv_tree.specs.declared.name.Name.{Name}
use Rattle.vmv_tree.specs.Names.{is_name}
use Rattle.vmv_tree.specs.Words.{IsWord}
use Rattle.vmv_run.specs.declared.answer.Answer.{Answer}
use Rattle.vmv_witness.specs.declared.witness.ParamValue.{ParamValue}
use Rattle.vmv_witness.specs.declared.witness.Witness.{Witness}
use Rattle.vmv_witness.specs.Numbers.{IsSiteNumber, IsValue}
use Rattle.vmv_witness.specs.Text.{AreWords, IsWitness, param_pair, answer_pair}
use Rattle.vmv_witness.proofs.Digits.{word_mag}

some_power : (j : ℕ) → 0 < 10 ^ j
some_power zero = let e : 10 ^ 0 ≡ 1 = refl in omega (arith, e)
some_power (suc j) = let e = pow-suc 10 j in let h = some_power j in omega (arith, e, h)

-- one more digit stands for ten times as much
one_more : (n j : ℕ) → n / 10 < 10 ^ j → n < 10 ^ suc j
one_more n j h =
    let e = pow-suc 10 j in
    let g : n < 10 ^ j * 10 = (div-lt_iff_lt-mul {k = 10} {x = n} {y = 10 ^ j} (omega arith)).0 h in
    omega (arith, e, g)

module _ (n : ℕ) (acc : List ℕ) where
  last_onto : (k : ℕ) → n / 10 ≡ 0 → length (digits_onto (suc k) 10 false n acc) ≡ suc (length acc)
  last_onto k e = ap length (digits_onto_last 10 false n acc (suc k) (omega arith) e)

  next_onto : (k : ℕ) → (n / 10 ≡ 0 → ⊥) → length (digits_onto (suc k) 10 false n acc) ≡ length (digits_onto k 10 false (n / 10) (digit_glyph false (n % 10) ∷ acc))
  next_onto k e =
      ap length (digits_onto_step 10 false n acc (suc k) (omega arith) e ∙ ap (λ (j : ℕ). digits_onto j 10 false (n / 10) (digit_glyph false (n % 10) ∷ acc)) {x = suc k - 1} {y = k} (omega arith))

-- either this is the last digit or there are more
by_digit : {P : Type 0} (n : ℕ) → (n / 10 ≡ 0 → P) → ((n / 10 ≡ 0 → ⊥) → P) → P
by_digit {P} n last next = either (eqb (n / 10) 0) refl
  where
    either : (b : Bool) → eqb (n / 10) 0 ≡ b → P
    either true e = last (eqb-true (n / 10) 0 e)
    either false e = next (λ z. let t : eqb (n / 10) 0 ≡ true = rw z refl in absurd (cc))

grows : (k n : ℕ) (acc : List ℕ) → length acc ≤ length (digits_onto k 10 false n acc)
grows zero n acc = omega arith
grows (suc k) n acc =
    by_digit n
    (λ z. let e = last_onto n acc k z in omega (arith, e))
    (λ z. let e = next_onto n acc k z in let h = grows k (n / 10) (digit_glyph false (n % 10) ∷ acc) in omega (arith, e, h))

few_onto : (k j n : ℕ) (acc : List ℕ) → j < k → length (digits_onto k 10 false n acc) ≤ length acc + j → n < 10 ^ j
few_onto zero j n acc less h = absurd (omega (arith, less))
few_onto (suc k) zero n acc less h =
    absurd
    (by_digit n
    (λ z. let e = last_onto n acc k z in omega (arith, e, h))
    (λ z. let e = next_onto n acc k z in let g = grows k (n / 10) (digit_glyph false (n % 10) ∷ acc) in omega (arith, e, g, h)))
few_onto (suc k) (suc j) n acc less h =
    one_more n j
    (by_digit n
    (λ z. let some = some_power j in omega (arith, z, some))
    (λ z. let e = next_onto n acc k z in few_onto k j (n / 10) (digit_glyph false (n % 10) ∷ acc) (omega (arith, less)) (omega (arith, e, h))))

-- a number of few digits is small
few_digits : (j n : ℕ) → j < 64 → length (decimal n) ≤ j → n < 10 ^ j
few_digits j n less h = let e = ap length (digits_onto-nil 10 false n) in few_onto 64 j n [] less (omega (arith, e, h))

site_small : (index : ℕ) → IsSiteNumber (decimal index) → index < 2 ^ 32
site_small index (k, small, e) =
    let short = length-decimal-le 10 k (omega arith) (omega (arith, small)) (omega (arith, small)) in
    let same = ap length e in
    let few : index < 10 ^ 10 = few_digits 10 index (omega arith) (omega (arith, short, same)) in
    let is = decimal_injective index k (omega (arith, few)) (omega (arith, small)) e in
    omega (arith, is, small)

-- digits of a number that is small are those of no other
same_digits : (m n : ℕ) → n < 2 ^ 64 - 1 → n < 10 ^ 19 → decimal m ≡ decimal n → m ≡ n
same_digits m n small less e =
    let short = length-decimal-le 19 n (omega arith) less (omega (arith, small)) in
    let same = ap length e in
    let few : m < 10 ^ 19 = few_digits 19 m (omega arith) (omega (arith, short, same)) in
    decimal_injective m n (omega (arith, few)) (omega (arith, small)) e

no_minus : (m : ℕ) (ds : List ℕ) → length ds ≤ 19 → decimal m ≡ 45 ∷ ds → ⊥
no_minus m ds short e =
    let same = ap length e in
    let few : m < 10 ^ 20 = few_digits 20 m (omega arith) (omega (arith, short, same)) in
    let digits = (decimal_is_IsNumeral_wide m (omega (arith, few))).0.1 in
    omega (arith, digit_from_value 45 (subst (AllDigits 10) e digits).0)

value_word : (z y : ℤ) → IsWord y → signed_decimal z ≡ signed_decimal y → IsWord z
value_word (pos m) (pos n) h e =
    let small = word_mag (pos n) h in
    subst IsWord (ap pos (sym (same_digits m n (omega (arith, small)) (omega (arith, small)) e))) h
value_word (pos m) (negsuc n) h e =
    let small = word_mag (negsuc n) h in
    absurd (no_minus m (decimal (suc n)) (length-decimal-le 19 (suc n) (omega arith) (omega (arith, small)) (omega (arith, small))) e)
value_word (negsuc m) (pos n) h e =
    let small = word_mag (pos n) h in
    let short = length-decimal-le 19 n (omega arith) (omega (arith, small)) (omega (arith, small)) in
    let same = ap length e in
    absurd (no_minus n (decimal (suc m)) (omega (arith, short, same)) (sym e))
value_word (negsuc m) (negsuc n) h e =
    let small = word_mag (negsuc n) h in
    let tail : decimal (suc m) ≡ decimal (suc n) = ap (drop 1) e in
    let is = same_digits (suc m) (suc n) (omega (arith, small)) (omega (arith, small)) tail in
    let same : m ≡ n = omega (arith, is) in
    subst IsWord (ap negsuc (sym same)) h

abbrev IsStrict : Name × List ℕ → Type 0
IsStrict p = IsTrue (is_name p.0) × IsValue p.1

param_words : (ps : List ParamValue) → AllByRecursion IsStrict (map param_pair ps) → AllByRecursion (λ (p : ParamValue). IsWord p.value) ps
param_words [] h = tt
param_words (p ∷ ps) h = let v = h.0.1 in (value_word p.value v.0 v.1 v.2, param_words ps h.1)

answer_words : (xs : List Answer) → AllByRecursion IsStrict (map answer_pair xs) → AllByRecursion (λ (a : Answer). IsWord a.value) xs
answer_words [] h = tt
answer_words (x ∷ xs) h = let v = h.0.1 in (value_word x.value v.0 v.1 v.2, answer_words xs h.1)

-- the numbers of a witness are such as their types hold
pub witness_words : (w : Witness) → IsWitness w → AreWords w
witness_words w h = record {
  index = site_small w.site.index h.number;
  params = param_words w.params h.params;
  answers = answer_words w.answers h.answers;
}
