-- For callers that walk along a list by `first` and `next`.
use Rattle.std.proofs.Common.{◌≡◌, ◌≤◌, ◌+◌, ℕ, suc, List, [], ◌∷◌, ◌++◌, Some, None, get_or, length, length-drop, drop, take, inl, inr, sym, ap, ◌∙◌, arith, add-one}
use Rattle.std.proofs.Math.Seq.{drop-cons}
use Rattle.std.proofs.lemmas.List.{nil_from_length, take-append-drop, take_more}
use Rattle.std.proofs.lemmas.Bool.{cases_lt}
use Rattle.vmv_links.specs.Lists.{first_of}

drop_past : (i : ℕ) (xs : List ℕ) → length xs ≤ i → drop i xs ≡ []
drop_past i xs past =
    let none : length (drop i xs) ≡ 0 = omega (arith, length-drop i xs) in
    nil_from_length (drop i xs) none

-- where a walk over i numbers has come to x, the list is those, x, and what the walk has still to see
pub first_of-drop : (xs : List ℕ) (i x : ℕ) → Some x ≡ first_of (drop i xs)
    → (xs ≡ take i xs ++ x ∷ drop (i + 1) xs) × (take (i + 1) xs ≡ take i xs ++ x ∷ [])
first_of-drop xs i x is =
    elim (cases_lt i (length xs)) [
      | inl within ↦
          let split = drop-cons xs i x within in
          let found : Some x ≡ Some (get_or xs i x) = is ∙ ap first_of split in
          let same : get_or xs i x ≡ x = cc in
          let rest : drop i xs ≡ x ∷ drop (i + 1) xs = rw add-one (split ∙ ap (λ y. y ∷ drop (suc i) xs) same) in
          (sym (take-append-drop i xs) ∙ ap (λ ys. take i xs ++ ys) rest, take_more xs i x within ∙ ap (λ y. take i xs ++ y ∷ []) same)
      | inr past ↦
          let none : drop i xs ≡ [] = drop_past i xs past in
          let no : Some x ≡ None = is ∙ ap first_of none in
          cc
    ]
