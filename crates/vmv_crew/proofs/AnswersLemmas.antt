use Rattle.std.proofs.Common.{◌≡◌, ℕ, ◌+◌, ◌<◌, ◌≤◌, zero, suc, List, [], ◌∷◌, length, map, slice_get, Some, Result, Ok, Err, Vec, Global, IfOk, arith, ap, subst, ◌∙◌, refl}
use Rattle.std.specs.Prelude.{MatchResult}
use Rattle.std.specs.List.{AllZip, Contains, range_with_len}
use Rattle.vmv_crew.specs.Answers.{AnswersInOrder}

module _ {Y : Type 0} (E : Type 0) (Q : ℕ → Y → Type 0) where
  -- results that are all `Ok` have what each `Ok` has
  oks-AllZip : (xs : List ℕ) (ys : List Y) → AllZip (λ i (r : Result Y E). IfOk r (Q i)) xs (map Ok ys) → AllZip Q xs ys
  oks-AllZip [] [] h = tt
  oks-AllZip [] (y ∷ ys) h = absurd h
  oks-AllZip (x ∷ xs) [] h = absurd h
  oks-AllZip (x ∷ xs) (y ∷ ys) h = (h.0, oks-AllZip xs ys h.1)

  -- what a list of results comes to, where it is `Ok` only of the list of their values
  pub of_results : (xs : List ℕ) (rs : List (Result Y E)) (all : Result (Vec Y Global) E)
      → AllZip (λ i (r : Result Y E). IfOk r (Q i)) xs rs
      → MatchResult all (λ v. (ys : List Y) × (rs ≡ map Ok ys) × (v.items ≡ ys)) (λ e. Contains rs (Err e))
      → IfOk all (λ v. AllZip Q xs v.items)
  of_results xs rs (Ok v) each given =
      let oks : AllZip (λ i (r : Result Y E). IfOk r (Q i)) xs (map Ok given.0) = rw given.1 at each in
      rw given.2 (oks-AllZip xs given.0 oks)
  of_results xs rs (Err e) each given = tt

module _ {X : Type 0} (allows : ℕ → X → Type 0) where
  -- there are as many answers as places
  pub length-AnswersInOrder : (from n : ℕ) (answers : List X) → AnswersInOrder allows from n answers → length answers ≡ n
  length-AnswersInOrder from zero [] h = refl
  length-AnswersInOrder from zero (x ∷ xs) h = absurd h
  length-AnswersInOrder from (suc n) [] h = absurd h
  length-AnswersInOrder from (suc n) (x ∷ xs) h = ap (λ k. suc k) (length-AnswersInOrder (from + 1) n xs h.1)

  -- where f gives the one answer that each of the places may have, the answers are those of f
  pub AnswersInOrder-map : (from n : ℕ) (answers : List X) (f : ℕ → X)
      → ((place : ℕ) (answer : X) → from ≤ place → place < from + n → allows place answer → answer ≡ f place)
      → AnswersInOrder allows from n answers → answers ≡ map f (range_with_len from n)
  AnswersInOrder-map from zero [] f only h = refl
  AnswersInOrder-map from zero (x ∷ xs) f only h = absurd h
  AnswersInOrder-map from (suc n) [] f only h = absurd h
  AnswersInOrder-map from (suc n) (x ∷ xs) f only h =
      let first : x ≡ f from = only from x (omega arith) (omega arith) h.0 in
      let rest : xs ≡ map f (range_with_len (from + 1) n) = AnswersInOrder-map (from + 1) n xs f (λ k y low high. only k y (omega arith) (omega arith)) h.1 in
      ap (λ y. y ∷ xs) first ∙ ap (λ ys. f from ∷ ys) rest

  -- the answer of a place is one that the place may have
  pub answer_at : (from n : ℕ) (answers : List X) → AnswersInOrder allows from n answers → (k : ℕ) (answer : X) → slice_get answers k ≡ Some answer → allows (from + k) answer
  answer_at from zero [] h k answer at = absurd (cc)
  answer_at from zero (x ∷ xs) h k answer at = absurd h
  answer_at from (suc n) [] h k answer at = absurd h
  answer_at from (suc n) (x ∷ xs) h zero answer at =
      let same : x ≡ answer = cc in
      let here : from ≡ from + 0 = omega arith in
      subst (λ i. allows i answer) here (subst (λ y. allows from y) same h.0)
  answer_at from (suc n) (x ∷ xs) h (suc k) answer at =
      let here : (from + 1) + k ≡ from + suc k = omega arith in
      subst (λ i. allows i answer) here (answer_at (from + 1) n xs h.1 k answer at)
