-- The words that tell a state, and that they tell its bounds and marks once.
use Rattle.std.proofs.Common.{◌≡◌, inl, inr, ℕ, suc, List, [], ◌∷◌, ◌++◌, length, map, refl, ap, subst, ◌∙◌, arith, append_assoc}
use Rattle.std.specs.Prelude.{codes}
use Rattle.std.specs.Fmt.{decimal, signed_decimal}
use Rattle.std.specs.List.{All, flat_map}
use Rattle.std.proofs.lemmas.Bool.{false≢true}
use Rattle.std.proofs.lemmas.Fmt.{decimal_injective}
use Rattle.vmv_zone.specs.Bounds.{IsInReach}
use Rattle.vmv_witness.specs.Numbers.{IsNumber}
use Rattle.vmv_proof_text.specs.States.{Bound}
use Rattle.vmv_proof_text.specs.Text.{spaced, bound_words, variable_word, told_state}
use Rattle.vmv_proof_text.specs.Lines.{IsCount}
use Rattle.vmv_proof_read.proofs.WordLists.{AreWords, decimal_lacks, signed_lacks}
use Rattle.vmv_proof_read.proofs.Loosely.{count_number}
use Rattle.vmv_proof_read.proofs.ReachWords.{reach_once}

abbrev pub bound_list : List Bound → List (List ℕ)
bound_list [] = []
bound_list (b ∷ bs) = decimal b.0 ∷ decimal b.1 ∷ signed_decimal b.2 ∷ bound_list bs

-- the words behind `nonzero`
abbrev pub marks_list : List ℕ → List (List ℕ)
marks_list ms = decimal (length ms) ∷ map decimal ms

abbrev pub told_words : ℕ → List Bound → List ℕ → List (List ℕ)
told_words vars bs ms = codes "vars" ∷ decimal vars ∷ codes "bounds" ∷ decimal (length bs) ∷ (bound_list bs ++ codes "nonzero" ∷ marks_list ms)

pub marks_spelled : (ms : List ℕ) → flat_map variable_word ms ≡ flat_map spaced (map decimal ms)
marks_spelled [] = refl
marks_spelled (m ∷ ms) = ap (λ t. variable_word m ++ t) (marks_spelled ms)

bound_spelled : (b : Bound) (rest : List ℕ) → bound_words b ++ rest ≡ spaced (decimal b.0) ++ (spaced (decimal b.1) ++ (spaced (signed_decimal b.2) ++ rest))
bound_spelled b rest =
    append_assoc (spaced (decimal b.0)) (spaced (decimal b.1) ++ spaced (signed_decimal b.2)) rest
    ∙ ap (λ t. spaced (decimal b.0) ++ t) (append_assoc (spaced (decimal b.1)) (spaced (signed_decimal b.2)) rest)

bounds_spelled : (bs : List Bound) (rest : List ℕ) (ws : List (List ℕ)) → rest ≡ flat_map spaced ws → flat_map bound_words bs ++ rest ≡ flat_map spaced (bound_list bs ++ ws)
bounds_spelled [] rest ws e = e
bounds_spelled (b ∷ bs) rest ws e =
    append_assoc (bound_words b) (flat_map bound_words bs) rest
    ∙ (bound_spelled b (flat_map bound_words bs ++ rest)
    ∙ ap (λ t. spaced (decimal b.0) ++ (spaced (decimal b.1) ++ (spaced (signed_decimal b.2) ++ t))) (bounds_spelled bs rest ws e))

pub state_spelled : (vars : ℕ) (bs : List Bound) (ms : List ℕ) → told_state vars bs ms ≡ flat_map spaced (told_words vars bs ms)
state_spelled vars bs ms =
    let marks : List ℕ = codes " nonzero " ++ (decimal (length ms) ++ flat_map variable_word ms) in
    ap (λ t. codes " vars " ++ (decimal vars ++ (codes " bounds " ++ t)))
    (append_assoc (decimal (length bs)) (flat_map bound_words bs) marks
    ∙ ap (λ t. decimal (length bs) ++ t)
    (bounds_spelled bs marks (codes "nonzero" ∷ marks_list ms) (ap (λ t. codes " nonzero " ++ (decimal (length ms) ++ t)) (marks_spelled ms))))

decimals_words : (ms : List ℕ) → AreWords (map decimal ms)
decimals_words [] = tt
decimals_words (m ∷ ms) = (decimal_lacks 32 (omega arith) m, decimals_words ms)

bounds_words : (bs : List Bound) (ws : List (List ℕ)) → AreWords ws → AreWords (bound_list bs ++ ws)
bounds_words [] ws h = h
bounds_words (b ∷ bs) ws h =
    (decimal_lacks 32 (omega arith) b.0, (decimal_lacks 32 (omega arith) b.1, (signed_lacks 32 (omega arith) b.2, bounds_words bs ws h)))

pub state_words : (vars : ℕ) (bs : List Bound) (ms : List ℕ) → AreWords (told_words vars bs ms)
state_words vars bs ms = (
  refl,
  (
    decimal_lacks 32 (omega arith) vars,
    (
      refl,
      (
        decimal_lacks 32 (omega arith) (length bs),
        bounds_words bs (codes "nonzero" ∷ marks_list ms) (refl, (decimal_lacks 32 (omega arith) (length ms), decimals_words ms)),
      ),
    ),
  ),
)

no_number : IsNumber (codes "nonzero") → ⊥
no_number (inl natural) = false≢true natural.0
no_number (inr (ds, e, natural, some)) = let s : ◌≡◌ {A = ℕ} 110 45 = cc in omega arith

no_count : (n : ℕ) → IsCount n → decimal n ≡ codes "nonzero" → ⊥
no_count n small e = no_number (subst IsNumber e (count_number n small))

-- its things are counts, and the bound is in reach
pub record IsFit (b : Bound) : Type 0 where
  pub first : IsCount b.0
  pub second : IsCount b.1
  pub reach : IsInReach b.2

pub bounds_once : (bs cs : List Bound) (ws vs : List (List ℕ)) → All IsFit bs → All IsFit cs
    → bound_list bs ++ codes "nonzero" ∷ ws ≡ bound_list cs ++ codes "nonzero" ∷ vs → (bs ≡ cs) × (ws ≡ vs)
bounds_once [] [] ws vs h k e = (refl, cc)
bounds_once [] (c ∷ cs) ws vs h k e = let s : decimal c.0 ≡ codes "nonzero" = cc in absurd (no_count c.0 (k 0 c (omega arith)).first s)
bounds_once (b ∷ bs) [] ws vs h k e = let s : decimal b.0 ≡ codes "nonzero" = cc in absurd (no_count b.0 (h 0 b (omega arith)).first s)
bounds_once (b ∷ bs) (c ∷ cs) ws vs h k e =
    let one : decimal b.0 ≡ decimal c.0 = cc in
    let two : decimal b.1 ≡ decimal c.1 = cc in
    let three : signed_decimal b.2 ≡ signed_decimal c.2 = cc in
    let tail : bound_list bs ++ codes "nonzero" ∷ ws ≡ bound_list cs ++ codes "nonzero" ∷ vs = cc in
    let x = h 0 b (omega arith) in
    let y = k 0 c (omega arith) in
    let first = decimal_injective b.0 c.0 (omega (arith, x.first)) (omega (arith, y.first)) one in
    let second = decimal_injective b.1 c.1 (omega (arith, x.second)) (omega (arith, y.second)) two in
    let bound = reach_once b.2 c.2 x.reach y.reach three in
    let rest = bounds_once bs cs ws vs (λ i d few. h (suc i) d (omega arith)) (λ i d few. k (suc i) d (omega arith)) tail in
    (λ i. (first i, second i, bound i) ∷ rest.0 i, rest.1)

pub marks_once : (ms ns : List ℕ) → All IsCount ms → All IsCount ns → map decimal ms ≡ map decimal ns → ms ≡ ns
marks_once [] [] h k e = refl
marks_once [] (n ∷ ns) h k e = absurd (cc)
marks_once (m ∷ ms) [] h k e = absurd (cc)
marks_once (m ∷ ms) (n ∷ ns) h k e =
    let one : decimal m ≡ decimal n = cc in
    let tail : map decimal ms ≡ map decimal ns = cc in
    let first = decimal_injective m n (omega (arith, h 0 m (omega arith))) (omega (arith, k 0 n (omega arith))) one in
    let rest = marks_once ms ns (λ i d few. h (suc i) d (omega arith)) (λ i d few. k (suc i) d (omega arith)) tail in
    λ i. first i ∷ rest i
