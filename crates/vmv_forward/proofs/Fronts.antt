-- Places in lists that are put together.
use Rattle.std.proofs.Common.{◌≡◌, ◌⊎◌, inl, inr, ⊎_elim, ℕ, zero, suc, ◌+◌, Some, List, [], ◌∷◌, ◌++◌, length, slice_get, sym, subst, arith}

pub at_left : {X : Type 0} (xs ys : List X) (n : ℕ) (x : X) → slice_get xs n ≡ Some x → slice_get (xs ++ ys) n ≡ Some x
at_left [] ys n x e = absurd (cc)
at_left (y ∷ xs) ys zero x e = e
at_left (y ∷ xs) ys (suc n) x e = at_left xs ys n x e

next_at : {X : Type 0} (x : X) (xs : List X) (n m : ℕ) (y : X) → n ≡ suc m → slice_get xs m ≡ Some y → slice_get (x ∷ xs) n ≡ Some y
next_at x xs n m y e h = subst (λ k. slice_get (x ∷ xs) k ≡ Some y) (sym e) h

pub at_right : {X : Type 0} (xs ys : List X) (n : ℕ) (x : X) → slice_get ys n ≡ Some x → slice_get (xs ++ ys) (length xs + n) ≡ Some x
at_right [] ys n x e = let z : n ≡ 0 + n = omega arith in subst (λ k. slice_get ys k ≡ Some x) z e
at_right (y ∷ xs) ys n x e = next_at y (xs ++ ys) (length (y ∷ xs) + n) (length xs + n) x (omega arith) (at_right xs ys n x e)

-- a place in both is one in the first or in the second
pub at_either : {X : Type 0} (xs ys : List X) (n : ℕ) (x : X) → slice_get (xs ++ ys) n ≡ Some x → (slice_get xs n ≡ Some x) ⊎ ((m : ℕ) × (n ≡ length xs + m) × (slice_get ys m ≡ Some x))
at_either [] ys n x e = inr (n, omega arith, e)
at_either (y ∷ xs) ys zero x e = inl e
at_either (y ∷ xs) ys (suc n) x e =
    ⊎_elim (λ (h : slice_get xs n ≡ Some x). inl h) (λ (h : (m : ℕ) × (n ≡ length xs + m) × (slice_get ys m ≡ Some x)). inr (h.0, (let k = h.1 in omega arith), h.2)) (at_either xs ys n x e)
