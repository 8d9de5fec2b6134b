-- Lists in which one element is another.
use Rattle.std.proofs.Common.{◌≡◌, ℕ, zero, suc, ◌+◌, ◌<◌, Some, List, [], ◌∷◌, length, slice_get, get_or, refl, ap, subst, arith}
use Rattle.std.specs.Prelude.{slice_set, sum_by}
use Rattle.std.specs.List.{AllZip}
use Rattle.std.proofs.lemmas.List.Sums.{sum_by-set}

pub get_same : {X : Type 0} (xs : List X) (i : ℕ) (y : X) → i < length xs → slice_get (slice_set xs i y) i ≡ Some y
get_same [] i y h = absurd (omega arith)
get_same (x ∷ xs) zero y h = refl
get_same (x ∷ xs) (suc i) y h = get_same xs i y (omega (arith, h))

pub get_other : {X : Type 0} (xs : List X) (i j : ℕ) (y : X) → (j ≡ i → ⊥) → slice_get (slice_set xs i y) j ≡ slice_get xs j
get_other [] i j y h = refl
get_other (x ∷ xs) zero zero y h = absurd (h refl)
get_other (x ∷ xs) zero (suc j) y h = refl
get_other (x ∷ xs) (suc i) zero y h = refl
get_other (x ∷ xs) (suc i) (suc j) y h = get_other xs i j y (λ e. h (ap suc e))

pub length_set : {X : Type 0} (xs : List X) (i : ℕ) (y : X) → length (slice_set xs i y) ≡ length xs
length_set [] i y = refl
length_set (x ∷ xs) zero y = refl
length_set (x ∷ xs) (suc i) y = let h = length_set xs i y in omega arith

at_or : {X : Type 0} (xs : List X) (i : ℕ) (x d : X) → slice_get xs i ≡ Some x → get_or xs i d ≡ x
at_or [] i x d e = absurd (cc)
at_or (y ∷ xs) zero x d e = cc
at_or (y ∷ xs) (suc i) x d e = at_or xs i x d e

within_of : {X : Type 0} (xs : List X) (i : ℕ) (x : X) → slice_get xs i ≡ Some x → i < length xs
within_of [] i x e = absurd (cc)
within_of (y ∷ xs) zero x e = omega arith
within_of (y ∷ xs) (suc i) x e = let h = within_of xs i x e in omega arith

-- a sum in which one term is another
pub sum_set : {X : Type 0} (f : X → ℕ) (xs : List X) (i : ℕ) (x y : X) → slice_get xs i ≡ Some x → sum_by f (slice_set xs i y) + f x ≡ sum_by f xs + f y
sum_set f xs i x y e =
    let h = sum_by-set f xs i y x (within_of xs i x e) in
    subst (λ z. sum_by f (slice_set xs i y) + f z ≡ sum_by f xs + f y) (at_or xs i x x e) h

-- what two lists say place by place
pub zip_at : {X Y : Type 0} (R : X → Y → Type 0) (xs : List X) (ys : List Y) (n : ℕ) (y : Y) → AllZip R xs ys → slice_get ys n ≡ Some y → (x : X) × (slice_get xs n ≡ Some x) × R x y
zip_at R [] [] n y all e = absurd (cc)
zip_at R [] (b ∷ ys) n y all e = absurd all
zip_at R (a ∷ xs) [] n y all e = absurd all
zip_at R (a ∷ xs) (b ∷ ys) zero y all e = (a, refl, subst (R a) (let same : b ≡ y = cc in same) all.0)
zip_at R (a ∷ xs) (b ∷ ys) (suc n) y all e = zip_at R xs ys n y all.1 e

pub zip_left : {X Y : Type 0} (R : X → Y → Type 0) (xs : List X) (ys : List Y) (n : ℕ) (x : X) → AllZip R xs ys → slice_get xs n ≡ Some x → (y : Y) × (slice_get ys n ≡ Some y) × R x y
zip_left R [] [] n x all e = absurd (cc)
zip_left R [] (b ∷ ys) n x all e = absurd all
zip_left R (a ∷ xs) [] n x all e = absurd all
zip_left R (a ∷ xs) (b ∷ ys) zero x all e = (b, refl, subst (λ z. R z b) (let same : a ≡ x = cc in same) all.0)
zip_left R (a ∷ xs) (b ∷ ys) (suc n) x all e = zip_left R xs ys n x all.1 e
