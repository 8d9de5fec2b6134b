-- What lists have.
use Rattle.std.proofs.Common.{◌≡◌, ◌⊎◌, ⊎_elim, inl, inr, ℕ, zero, suc, ◌+◌, ◌<◌, ◌≤◌, Some, List, [], ◌∷◌, ◌++◌, length, take, drop, get_or, slice_get, refl, sym, ap, subst, ◌∙◌, arith, add-one}
use Rattle.std.proofs.lemmas.List.{take_all}
use Rattle.std.proofs.lemmas.List.Elements.{Contains-push_cases}
use Rattle.std.proofs.lemmas.Option.{slice_get-get_or}
use Rattle.std.specs.List.{Contains}

pub none_in : {X : Type 0} (x : X) → Contains [] x → ⊥
none_in x (k, within, is) = absurd (omega (arith, within))

pub first_in : {X : Type 0} (x : X) (xs : List X) → Contains (x ∷ xs) x
first_in x xs = (0, omega arith, refl)

pub later_in : {X : Type 0} (y : X) (xs : List X) (x : X) → Contains xs x → Contains (y ∷ xs) x
later_in y xs x (k, within, is) = (suc k, omega (arith, within), is)

pub first_or_later : {X : Type 0} (y : X) (xs : List X) (x : X) → Contains (y ∷ xs) x → (y ≡ x) ⊎ Contains xs x
first_or_later y xs x (zero, within, is) = inl is
first_or_later y xs x (suc k, within, is) = inr (k, omega (arith, within), is)

-- an item at a place is an element, also of an equal list
pub at_in : {X : Type 0} (xs ys : List X) (i : ℕ) (x : X) → i < length xs → x ≡ get_or xs i x → xs ≡ ys → Contains ys x
at_in xs ys i x h e same = subst (λ (zs : List _). Contains zs x) same (i, h, sym e)

pub got_at : {X : Type 0} (xs : List X) (i : ℕ) (x y : X) → i < length xs → x ≡ get_or xs i x → slice_get xs i ≡ Some y → x ≡ y
got_at xs i x y h e at = some_same (ap Some e ∙ sym (slice_get-get_or xs i x h) ∙ at)
  where
    some_same : {A : Type 0} {a b : A} → Some a ≡ Some b → a ≡ b
    some_same e = cc

-- an item at a place of a list with one more
pub got_pushed : {X : Type 0} (xs : List X) (x : X) (i : ℕ) (y : X) → slice_get (xs ++ x ∷ []) i ≡ Some y → (slice_get xs i ≡ Some y) ⊎ ((i ≡ length xs) × (x ≡ y))
got_pushed [] x zero y e = let same : x ≡ y = cc in inr (refl, same)
got_pushed [] x (suc i) y e = absurd (cc)
got_pushed (z ∷ xs) x zero y e = inl e
got_pushed (z ∷ xs) x (suc i) y e =
    ⊎_elim (λ (old : slice_get xs i ≡ Some y). inl old) (λ (new : (i ≡ length xs) × (x ≡ y)). let at = new.0 in inr (omega (arith, at), new.1)) (got_pushed xs x i y e)

-- a list round one of its places
pub parts_at : {X : Type 0} (xs : List X) (i : ℕ) (x : X) → i < length xs → x ≡ get_or xs i x → xs ≡ take i xs ++ x ∷ drop (suc i) xs
parts_at [] i x h e = absurd (omega (arith, h))
parts_at (y ∷ xs) zero x h e = ap (λ (z : _). z ∷ xs) (sym e)
parts_at (y ∷ xs) (suc i) x h e = ap (λ (zs : List _). y ∷ zs) (parts_at xs i x (omega (arith, h)) e)

pub take_at : {A : Type 0} (xs : List A) (i : ℕ) (x : A) → i < length xs → x ≡ get_or xs i x → take (i + 1) xs ≡ take i xs ++ x ∷ []
take_at {A = A} xs i x h e = rw add-one (by xs i h e)
  where
    by : (xs : List A) (i : ℕ) → i < length xs → x ≡ get_or xs i x → take (suc i) xs ≡ take i xs ++ x ∷ []
    by [] i h e = absurd (omega (arith, h))
    by (y ∷ xs) zero h e = ap (λ (z : A). z ∷ []) (sym e)
    by (y ∷ xs) (suc i) h e = ap (λ (zs : List A). y ∷ zs) (by xs i (omega (arith, h)) e)

-- nothing before, and nothing at one place more
pub none_more : {X : Type 0} (P : X → Type 0) (xs : List X) (i : ℕ) (x : X) → i < length xs → x ≡ get_or xs i x → ((y : X) → Contains (take i xs) y → ¬ P y) → ¬ P x → (y : X) → Contains (take (i + 1) xs) y → ¬ P y
none_more P xs i x h e before not y there =
    ⊎_elim (λ (old : Contains (take i xs) y). before y old) (λ (same : x ≡ y). subst (λ (z : _). ¬ P z) same not)
    (Contains-push_cases (take i xs) x y (subst (λ (zs : List _). Contains zs y) (take_at xs i x h e) there))

pub none_at_all : {X : Type 0} (P : X → Type 0) (xs : List X) (i : ℕ) → length xs ≤ i → ((y : X) → Contains (take i xs) y → ¬ P y) → (y : X) → Contains xs y → ¬ P y
none_at_all P xs i h before y there = before y (subst (λ (zs : List _). Contains zs y) (sym (take_all i xs h)) there)
