-- Elements of lists, and of their fronts.
use Rattle.std.proofs.Common.{◌≡◌, ◌⊎◌, inl, inr, ⊎_elim, ℕ, zero, suc, ◌+◌, ◌<◌, ◌≤◌, Bool, true, false, IsTrue, IsFalse, Some, List, [], ◌∷◌, ◌++◌, length, take, get_or, slice_get, refl, sym, ap, subst, arith, ◌∙◌}
use Rattle.std.specs.List.{All, Contains}
use Rattle.std.proofs.lemmas.List.{take_all}
use Rattle.std.proofs.lemmas.List.Elements.{Contains-append_left, Contains-append_right}
use Rattle.vmv_snapshot.proofs.Zips.{take_one_more}

pub clash : (b : Bool) → b ≡ true → b ≡ false → ⊥
clash b t f = let e : true ≡ false = sym t ∙ f in absurd (cc)

pub up_of : (b : Bool) → (IsTrue b → IsTrue false) → IsFalse b
up_of true h = let t = h refl in absurd (cc)
up_of false h = refl

pub some_same : {X : Type 0} {x y : X} → Some x ≡ Some y → x ≡ y
some_same e = cc

pub item_in : {X : Type 0} (xs : List X) (i : ℕ) (x : X) → i < length xs → x ≡ get_or xs i x → Contains xs x
item_in xs i x h is = (i, h, sym is)

none_in : {X : Type 0} (x : X) → Contains [] x → ⊥
none_in x (k, h, e) = absurd (omega (arith, h))

first_or_further : {X : Type 0} (x : X) (xs : List X) (y : X) → Contains (x ∷ xs) y → (x ≡ y) ⊎ Contains xs y
first_or_further x xs y (zero, h, e) = inl e
first_or_further x xs y (suc k, h, e) = inr (k, omega (arith, h), e)

further : {X : Type 0} (y : X) (xs : List X) (x : X) → Contains xs x → Contains (y ∷ xs) x
further y xs x (k, h, e) = (suc k, omega (arith, h), e)

pub push_in : {X : Type 0} (xs : List X) (x y : X) → Contains (xs ++ x ∷ []) y → Contains xs y ⊎ (x ≡ y)
push_in [] x y h = ⊎_elim (λ (e : x ≡ y). inr e) (λ (g : Contains [] y). absurd (none_in y g)) (first_or_further x [] y h)
push_in (z ∷ xs) x y h =
    ⊎_elim (λ (e : z ≡ y). inl (0, omega arith, e))
    (λ (g : Contains (xs ++ x ∷ []) y). ⊎_elim (λ (old : Contains xs y). inl (further z xs y old)) (λ (e : x ≡ y). inr e) (push_in xs x y g))
    (first_or_further z (xs ++ x ∷ []) y h)

pub old_in : {X : Type 0} (xs : List X) (x y : X) → Contains xs y → Contains (xs ++ x ∷ []) y
old_in xs x y h = Contains-append_left xs (x ∷ []) y h

pub new_in : {X : Type 0} (xs : List X) (x : X) → Contains (xs ++ x ∷ []) x
new_in xs x = Contains-append_right xs (x ∷ []) x (0, omega arith, refl)

-- it holds of the first elements
abbrev pub Upto : {X : Type 0} → (X → Type 0) → List X → ℕ → Type 0
Upto P xs i = (x : _) → Contains (take i xs) x → P x

pub upto_start : {X : Type 0} (P : X → Type 0) (xs : List X) → Upto P xs 0
upto_start P xs x h = absurd (none_in x h)

pub upto_more : {X : Type 0} (P : X → Type 0) (xs : List X) (i : ℕ) (x : X) → i < length xs → x ≡ get_or xs i x → Upto P xs i → P x → Upto P xs (i + 1)
upto_more P xs i x h is up p y there =
    ⊎_elim (λ (old : Contains (take i xs) y). up y old) (λ (e : x ≡ y). subst P e p) (push_in (take i xs) x y (subst (λ ys. Contains ys y) (take_one_more xs i x h is) there))

pub upto_end : {X : Type 0} (P : X → Type 0) (xs : List X) (i : ℕ) → length xs ≤ i → Upto P xs i → (x : X) → Contains xs x → P x
upto_end P xs i h up x there = up x (subst (λ ys. Contains ys x) (sym (take_all i xs h)) there)

same_item : {X : Type 0} (xs : List X) (k : ℕ) (d e : X) → k < length xs → get_or xs k d ≡ get_or xs k e
same_item [] k d e h = absurd (omega arith)
same_item (x ∷ xs) zero d e h = refl
same_item (x ∷ xs) (suc k) d e h = same_item xs k d e (omega (arith, h))

pub all_of : {X : Type 0} (P : X → Type 0) (xs : List X) → ((x : X) → Contains xs x → P x) → All P xs
all_of P xs each k d h = each (get_or xs k d) (k, h, same_item xs k (get_or xs k d) d h)

pub of_all : {X : Type 0} (P : X → Type 0) (xs : List X) → All P xs → (x : X) → Contains xs x → P x
of_all P xs all x (k, h, e) = subst P e (all k x h)

pub got_in : {X : Type 0} (xs : List X) (n : ℕ) (x : X) → slice_get xs n ≡ Some x → Contains xs x
got_in [] n x e = absurd (cc)
got_in (y ∷ xs) zero x e = (0, omega arith, some_same e)
got_in (y ∷ xs) (suc n) x e = further y xs x (got_in xs n x e)

pub within : {X : Type 0} (xs : List X) (n : ℕ) (x : X) → slice_get xs n ≡ Some x → n < length xs
within [] n x e = absurd (cc)
within (y ∷ xs) zero x e = omega arith
within (y ∷ xs) (suc n) x e = let h = within xs n x e in omega arith

pub at_place : {X : Type 0} (xs : List X) (n : ℕ) (x : X) → n < length xs → x ≡ get_or xs n x → slice_get xs n ≡ Some x
at_place [] n x h e = absurd (omega arith)
at_place (y ∷ xs) zero x h e = ap (λ z. Some z) (sym e)
at_place (y ∷ xs) (suc n) x h e = at_place xs n x (omega (arith, h)) e

pub item_at : {X : Type 0} (xs : List X) (n : ℕ) → n < length xs → (x : X) × (slice_get xs n ≡ Some x)
item_at [] n h = absurd (omega arith)
item_at (x ∷ xs) zero h = (x, refl)
item_at (x ∷ xs) (suc n) h = item_at xs n (omega (arith, h))
