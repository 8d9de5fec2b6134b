-- What tells a state tells it loosely.
use Rattle.std.proofs.Common.{◌≡◌, ◌⊎◌, inl, inr, ℕ, zero, suc, ◌+◌, ◌/◌, ◌%◌, ◌<◌, ◌≤◌, Bool, true, false, IsTrue, List, [], ◌∷◌, ◌++◌, length, map, refl, sym, ap, subst, ◌∙◌, arith, append_assoc}
use Rattle.std.specs.Prelude.{codes, if◌then◌else◌}
use Rattle.std.specs.Fmt.{decimal, signed_decimal}
use Rattle.std.specs.List.{All, Contains, flat_map}
use Rattle.std.proofs.lemmas.Bool.{cases_lt, lt-ltb, or_left}
use Rattle.std.proofs.lemmas.Fmt.{decimal_digit, decimal_step}
use Rattle.std.proofs.lemmas.List.{append-nil, length-map}
use Rattle.std.proofs.lemmas.List.Elements.{All-contains_itself, All-map, All-weaker, Contains-push_cases}
use Rattle.vmv_zone.specs.declared.zone.Zone.{Zone}
use Rattle.vmv_zone.specs.Zone.{vars_of, mark_of}
use Rattle.vmv_zone.specs.Bounds.{IsInReach}
use Rattle.vmv_witness.specs.Numbers.{IsNumber}
use Rattle.vmv_proof_words.proofs.Digits.{natural_number, no_minus}
use Rattle.vmv_proof_text.specs.Naming as naming
use Rattle.vmv_proof_text.specs.Loose as loose
use Rattle.vmv_proof_text.specs.Loose.{Digits, is_less_natural, IsNegative, IsLess, SpelledBound, AreNumbers, spelled_bound, IsStateLoosely, IsToldLoosely}
use Rattle.vmv_proof_text.specs.States.{Bound, marked_things, marked_variables}
use Rattle.vmv_proof_text.specs.Text.{spaced, bound_words, variable_word, told_state}
use Rattle.vmv_proof_text.specs.Lines.{IsState, IsTold}
use Rattle.vmv_proof_read.proofs.ReachWords.{reach_number, some_word}
use Rattle.vmv_proof_read.proofs.StateWords.{marks_spelled}
use Rattle.vmv_proof_read.proofs.Marks.{named_marked}

two_digits : (n : ℕ) → 10 ≤ n → n ≤ 16 → decimal n ≡ 49 ∷ (38 + n) ∷ []
two_digits n low high =
    let ten : n / 10 ≡ 1 = omega arith in
    let end : 48 + n % 10 ≡ 38 + n = omega arith in
    decimal_step n low (omega arith) ∙ ((λ i. decimal (ten i) ++ end i ∷ []) ∙ ap (λ t. t ++ (38 + n) ∷ []) (decimal_digit 1 (omega arith)))

-- of two things, the less is so by its digits
less_digits : (m n : ℕ) → m < n → n ≤ 16 → IsTrue (is_less_natural (decimal m) (decimal n))
less_digits m n less few = by (cases_lt m 10) (cases_lt n 10)
  where
    by : (m < 10) ⊎ (10 ≤ m) → (n < 10) ⊎ (10 ≤ n) → IsTrue (is_less_natural (decimal m) (decimal n))
    by (inl a) (inl b) =
        (λ i. is_less_natural (decimal_digit m a i) (decimal_digit n b i)) ∙ or_left _ _ (lt-ltb (48 + m) (48 + n) (omega arith))
    by (inl a) (inr b) = (λ i. is_less_natural (decimal_digit m a i) (two_digits n b few i)) ∙ refl
    by (inr a) (inl b) = absurd (omega arith)
    by (inr a) (inr b) =
        (λ i. is_less_natural (two_digits m a (omega arith) i) (two_digits n b few i)) ∙ or_left _ _ (lt-ltb (38 + m) (38 + n) (omega arith))

no_negative : (n : ℕ) → n ≤ 16 → IsNegative (decimal n) → ⊥
no_negative n few (ds, e) = no_minus n ds (omega arith) (sym e)

less_things : (m n : ℕ) → m < n → n ≤ 16 → IsLess (decimal m) (decimal n)
less_things m n less few = inr (inl ((no_negative m (omega arith), no_negative n few), less_digits m n less few))

spell : Bound → SpelledBound
spell b = (decimal b.0, decimal b.1, signed_decimal b.2)

-- a bound on things, in reach
record IsOnThings (b : Bound) : Type 0 where
  first : b.0 ≤ 16
  second : b.1 ≤ 16
  reach : IsInReach b.2

spelled_precedes : (b c : Bound) → IsOnThings c → naming.Precedes b c → loose.Precedes (spell b) (spell c)
unfolding spell
spelled_precedes b c few (inl less) = inl (less_things b.0 c.0 less few.first)
spelled_precedes b c few (inr (e, less)) = inr (ap decimal e, less_things b.1 c.1 less few.second)

spelled_sorted : (bs : List Bound) → ((b : Bound) → Contains bs b → IsOnThings b) → naming.AreSorted bs → loose.AreSorted loose.Precedes (map spell bs)
spelled_sorted [] h s = tt
spelled_sorted (b ∷ []) h s = tt
spelled_sorted (b ∷ c ∷ bs) h s = (
  spelled_precedes b c (h c (1, omega arith, refl)) (s.0 c (0, omega arith, refl)),
  spelled_sorted (c ∷ bs) (λ d at. h d (suc at.0, omega (arith, at.1), at.2)) s.1,
)

spelled_number : (b : Bound) → IsOnThings b → AreNumbers (spell b)
unfolding spell
spelled_number b h = record {
  first = natural_number b.0 (omega (arith, h.first));
  second = natural_number b.1 (omega (arith, h.second));
  bound = reach_number b.2 h.reach;
}

spelled_numbers : (bs : List Bound) → ((b : Bound) → Contains bs b → IsOnThings b) → All AreNumbers (map spell bs)
spelled_numbers bs h =
    All-map AreNumbers spell bs (All-weaker (Contains bs) (λ b. AreNumbers (spell b)) (λ b at. spelled_number b (h b at)) bs (All-contains_itself bs))

bounds_spelled : (bs : List Bound) → flat_map bound_words bs ≡ flat_map spelled_bound (map spell bs)
unfolding spell
bounds_spelled [] = refl
bounds_spelled (b ∷ bs) = ap (λ t. bound_words b ++ t) (bounds_spelled bs)

-- each is less than those behind it
abbrev AreRising : List ℕ → Type 0
AreRising [] = Unit {0}
AreRising (m ∷ ms) = ((n : ℕ) → Contains ms n → m < n) × AreRising ms

rising_more : (ms : List ℕ) (n : ℕ) → AreRising ms → ((m : ℕ) → Contains ms m → m < n) → AreRising (ms ++ n ∷ [])
rising_more [] n r h = (λ k at. absurd (omega (arith, at.1)), tt)
rising_more (m ∷ ms) n r h = (
  λ k at. less k (Contains-push_cases ms n k at),
  rising_more ms n r.1 (λ k at. h k (suc at.0, omega (arith, at.1), at.2)),
)
  where
    less : (k : ℕ) → Contains ms k ⊎ (n ≡ k) → m < k
    less k (inl front) = r.0 k front
    less k (inr same) = omega (arith, same, h m (0, omega arith, refl))

marks_rise : (z : Zone) (n : ℕ) → AreRising (marked_things z n)
marks_rise z zero = tt
marks_rise z (suc n) = either (mark_of z (n + 1)) (marks_rise z n)
  where
    either : (t : Bool) → AreRising (marked_things z n) → AreRising (marked_things z n ++ (if t then (n + 1) ∷ [] else []))
    either true r = rising_more (marked_things z n) (n + 1) r (λ m at. omega (arith, (named_marked z n m at).to))
    either false r = subst AreRising (sym (append-nil (marked_things z n))) r

marks_sorted : (ms : List ℕ) → ((m : ℕ) → Contains ms m → m ≤ 16) → AreRising ms → loose.AreSorted IsLess (map decimal ms)
marks_sorted [] h r = tt
marks_sorted (m ∷ []) h r = tt
marks_sorted (m ∷ n ∷ ms) h r = (
  less_things m n (r.0 n (0, omega arith, refl)) (h n (1, omega arith, refl)),
  marks_sorted (n ∷ ms) (λ k at. h k (suc at.0, omega (arith, at.1), at.2)) r.1,
)

-- what holds of the digits of each member holds of all
all_decimals : (P : Digits → Type 0) (ms : List ℕ) → ((m : ℕ) → Contains ms m → P (decimal m)) → All P (map decimal ms)
all_decimals P ms h = All-map P decimal ms (All-weaker (Contains ms) (λ m. P (decimal m)) h ms (All-contains_itself ms))

told_spelled : (vars : ℕ) (bs : List Bound) (ms : List ℕ) → told_state vars bs ms ≡ codes " vars " ++ (decimal vars ++ (codes " bounds " ++ (decimal (length (map spell bs)) ++ (flat_map spelled_bound (map spell bs)
    ++ (codes " nonzero " ++ (decimal (length (map decimal ms)) ++ flat_map spaced (map decimal ms)))))))
told_spelled vars bs ms =
    let count : length bs ≡ length (map spell bs) = sym (length-map bs spell) in
    let marks : length ms ≡ length (map decimal ms) = sym (length-map ms decimal) in
    ap (λ t. codes " vars " ++ (decimal vars ++ (codes " bounds " ++ t)))
    (append_assoc (decimal (length bs)) (flat_map bound_words bs) (codes " nonzero " ++ (decimal (length ms) ++ flat_map variable_word ms))
    ∙ (λ i. decimal (count i) ++ (bounds_spelled bs i ++ (codes " nonzero " ++ (decimal (marks i) ++ marks_spelled ms i)))))

told_loosely : (z : Zone) (bytes : List ℕ) → vars_of z ≤ 16 → IsTold z bytes → IsToldLoosely bytes
told_loosely z bytes few h =
    let ms : List ℕ = marked_variables z in
    let named : (m : ℕ) → Contains ms m → (0 < m) × (m ≤ 16) = λ m at. let r = named_marked z (vars_of z) m at in (r.from, omega (arith, few, r.to)) in
    let on : (b : Bound) → Contains h.bounds b → IsOnThings b = λ b at. on_things b (h.naming.each b at) in
    record {
      vars = decimal (vars_of z);
      bounds = map spell h.bounds;
      marks = map decimal ms;
      vars_number = natural_number (vars_of z) (omega (arith, few));
      bounds_numbers = spelled_numbers h.bounds on;
      bounds_sorted = spelled_sorted h.bounds on h.naming.sorted;
      marks_numbers = all_decimals IsNumber ms (λ m at. natural_number m (omega (arith, (named m at).1)));
      marks_sorted = marks_sorted ms (λ m at. (named m at).1) (marks_rise z (vars_of z));
      marks_variables = all_decimals (λ m. m ≡ codes "0" → ⊥) ms (λ m at. some_word m (named m at).0 (omega (arith, (named m at).1)));
      same = h.same ∙ told_spelled (vars_of z) h.bounds ms;
    }
  where
    on_things : (b : Bound) → naming.IsBoundOf z b → IsOnThings b
    on_things b r = record { first = omega (arith, few, r.first); second = omega (arith, few, r.second); reach = subst IsInReach (sym r.same) (z.reach _) }

pub state_told_loosely : (z : Zone) (bytes : List ℕ) → IsState z bytes → IsStateLoosely bytes
state_told_loosely z bytes (few, inl (b, e)) = inl (decimal (vars_of z), natural_number (vars_of z) (omega (arith, few)), e)
state_told_loosely z bytes (few, inr h) = inr (told_loosely z bytes few h)
