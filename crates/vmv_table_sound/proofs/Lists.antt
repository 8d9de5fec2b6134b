-- Elements of lists, and the two ways of a test.
use Rattle.std.proofs.Common.{◌≡◌, ◌⊎◌, inl, inr, ℕ, zero, suc, Bool, true, false, MatchBool, Some, List, [], ◌∷◌, ◌++◌, slice_get, refl, arith}
use Rattle.std.specs.List.{Contains}

pub further : {X : Type 0} (y : X) (xs : List X) (x : X) → Contains xs x → Contains (y ∷ xs) x
further y xs x (k, h, e) = (suc k, omega (arith, h), e)

pub first_or_further : {X : Type 0} (y : X) (xs : List X) (x : X) → Contains (y ∷ xs) x → (y ≡ x) ⊎ Contains xs x
first_or_further y xs x (zero, h, e) = inl e
first_or_further y xs x (suc k, h, e) = inr (k, omega (arith, h), e)

pub before_more : {X : Type 0} (xs ys : List X) (n : ℕ) (x : X) → slice_get xs n ≡ Some x → slice_get (xs ++ ys) n ≡ Some x
before_more [] ys n x e = absurd (cc)
before_more (y ∷ xs) ys zero x e = e
before_more (y ∷ xs) ys (suc n) x e = before_more xs ys n x e

-- what holds either way
pub by_test : (b : Bool) (P Q R : Type 0) → (b ≡ true → P → R) → (b ≡ false → Q → R) → MatchBool b P Q → R
by_test true P Q R f g h = f refl h
by_test false P Q R f g h = g refl h
