-- What lists hold, element by element.
use Rattle.std.proofs.Common.{◌≡◌, ◌⊎◌, inl, inr, ℕ, zero, suc, ◌+◌, ◌<◌, ◌≤◌, List, [], ◌∷◌, length, drop, get_or, refl, arith, add-one, drop-cons}
use Rattle.std.specs.List.{Contains}

pub none_in : {X : Type 0} (x : X) → Contains [] x → ⊥
none_in x (k, h, e) = absurd (omega (arith, h))

pub first_or_further : {X : Type 0} (x : X) (xs : List X) (y : X) → Contains (x ∷ xs) y → (x ≡ y) ⊎ Contains xs y
first_or_further x xs y (zero, h, e) = inl e
first_or_further x xs y (suc k, h, e) = inr (k, omega (arith, h), e)

pub first_in : {X : Type 0} (x : X) (xs : List X) (y : X) → x ≡ y → Contains (x ∷ xs) y
first_in x xs y e = (0, omega arith, e)

pub further_in : {X : Type 0} (x : X) (xs : List X) (y : X) → Contains xs y → Contains (x ∷ xs) y
further_in x xs y (k, h, e) = (suc k, omega (arith, h), e)

-- the rest from an element on
pub drop_at : {X : Type 0} (xs : List X) (i : ℕ) (x : X) → i < length xs → x ≡ get_or xs i x → drop i xs ≡ x ∷ drop (i + 1) xs
drop_at xs i x h is = rw (add-one, drop-cons xs i x, ← is) refl

pub drop_end : {X : Type 0} (xs : List X) (i : ℕ) → length xs ≤ i → drop i xs ≡ []
drop_end [] zero h = refl
drop_end [] (suc i) h = refl
drop_end (x ∷ xs) zero h = absurd (omega (arith, h))
drop_end (x ∷ xs) (suc i) h = drop_end xs i (omega (arith, h))
