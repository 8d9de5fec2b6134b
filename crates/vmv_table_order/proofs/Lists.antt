-- Elements of lists, and what isn't false of each of them.
use Rattle.std.proofs.Common.{◌≡◌, ◌⊎◌, inl, inr, ⊎_elim, zero, suc, List, [], ◌∷◌, refl, subst, arith}
use Rattle.std.specs.List.{Contains}

pub none_in : {X : Type 0} (x : X) → Contains [] x → ⊥
none_in x (k, h, e) = absurd (omega (arith, h))

pub first_or_further : {X : Type 0} (x : X) (xs : List X) (y : X) → Contains (x ∷ xs) y → (x ≡ y) ⊎ Contains xs y
first_or_further x xs y (zero, h, e) = inl e
first_or_further x xs y (suc k, h, e) = inr (k, omega (arith, h), e)

pub further : {X : Type 0} (y : X) (xs : List X) (x : X) → Contains xs x → Contains (y ∷ xs) x
further y xs x (k, h, e) = (suc k, omega (arith, h), e)

-- what isn't false of each element isn't false of all
pub each_of : {X : Type 0} (P : X → Type 0) (xs : List X) → ((x : X) → Contains xs x → ¬ (¬ P x)) → ¬ (¬ ((x : X) → Contains xs x → P x))
each_of P [] each k = k (λ x among. absurd (none_in x among))
each_of P (x ∷ xs) each k =
    each x (0, omega arith, refl)
    (λ p. each_of P xs (λ y among. each y (further x xs y among))
    (λ all. k (λ y among. ⊎_elim (λ (e : x ≡ y). subst P e p) (λ (g : Contains xs y). all y g) (first_or_further x xs y among))))
