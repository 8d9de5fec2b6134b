-- Elements of lists.
use Rattle.std.proofs.Common.{◌≡◌, ◌⊎◌, inl, inr, ⊎_elim, ℕ, zero, suc, ◌+◌, ◌<◌, ◌≤◌, Some, List, [], ◌∷◌, ◌++◌, length, get_or, slice_get, map, refl, sym, ap, subst, arith, ◌∙◌}
use Rattle.std.specs.List.{Contains, sum_by}
use Rattle.std.proofs.lemmas.List.Sums.{sum_by-cons}
use Rattle.std.proofs.lemmas.Option.{slice_get_within, slice_get-get_or}
use Rattle.vmv_snapshot.proofs.Lookups.{contains_at}

pub none_in : {X : Type 0} (x : X) → Contains [] x → ⊥
none_in x (k, h, e) = absurd (omega (arith, h))

pub first_in : {X : Type 0} (x : X) (xs : List X) → Contains (x ∷ xs) x
first_in x xs = (0, omega arith, refl)

pub further : {X : Type 0} (y : X) (xs : List X) (x : X) → Contains xs x → Contains (y ∷ xs) x
further y xs x (k, h, e) = (suc k, omega (arith, h), e)

pub first_or_further : {X : Type 0} (x : X) (xs : List X) (y : X) → Contains (x ∷ xs) y → (x ≡ y) ⊎ Contains xs y
first_or_further x xs y (zero, h, e) = inl e
first_or_further x xs y (suc k, h, e) = inr (k, omega (arith, h), e)

-- a place of a list with one more item is an old one, or the last
pub push_at : {X : Type 0} (xs : List X) (x y : X) (n : ℕ) → slice_get (xs ++ x ∷ []) n ≡ Some y → (slice_get xs n ≡ Some y) ⊎ ((n ≡ length xs) × (x ≡ y))
push_at [] x y zero e = inr (refl, cc)
push_at [] x y (suc n) e = absurd (cc)
push_at (z ∷ xs) x y zero e = inl e
push_at (z ∷ xs) x y (suc n) e = ⊎_elim (λ h. inl h) (λ h. inr (ap suc h.0, h.1)) (push_at xs x y n e)

-- an old place is one of a longer list
pub old_at : {X : Type 0} (xs ys : List X) (x : X) (n : ℕ) → slice_get xs n ≡ Some x → slice_get (xs ++ ys) n ≡ Some x
old_at [] ys x n e = absurd (cc)
old_at (y ∷ xs) ys x zero e = e
old_at (y ∷ xs) ys x (suc n) e = old_at xs ys x n e

-- the place behind a list is the first of what is added
pub new_at : {X : Type 0} (xs : List X) (x : X) → slice_get (xs ++ x ∷ []) (length xs) ≡ Some x
new_at [] x = refl
new_at (y ∷ xs) x = new_at xs x

-- it holds of each of the first n
abbrev pub Before : {X : Type 0} → (X → Type 0) → List X → ℕ → Type 0
Before P xs n = (k : ℕ) (x : _) → k < n → slice_get xs k ≡ Some x → P x

pub before_none : {X : Type 0} (P : X → Type 0) (xs : List X) → Before P xs 0
before_none P xs k x h e = absurd (omega (arith, h))

pub below_or_at : (k n : ℕ) → k < n + 1 → (k < n) ⊎ (k ≡ n)
below_or_at zero zero h = inr refl
below_or_at zero (suc n) h = inl (omega arith)
below_or_at (suc k) zero h = absurd (omega (arith, h))
below_or_at (suc k) (suc n) h = ⊎_elim (λ l. inl (omega (arith, l))) (λ e. inr (ap suc e)) (below_or_at k n (omega (arith, h)))

-- what a place of a list has
pub read_at : {X : Type 0} (xs : List X) (n : ℕ) (x : X) → n < length xs → x ≡ get_or xs n x → slice_get xs n ≡ Some x
read_at xs n x h is = slice_get-get_or xs n x h ∙ ap (λ y. Some y) (sym is)

pub same_there : {X : Type 0} (xs : List X) (n : ℕ) (x y : X) → slice_get xs n ≡ Some x → slice_get xs n ≡ Some y → x ≡ y
same_there xs n x y e f = let g : Some x ≡ Some y = sym e ∙ f in cc

pub before_more : {X : Type 0} (P : X → Type 0) (xs : List X) (n : ℕ) (x : X) → n < length xs → x ≡ get_or xs n x → Before P xs n → P x → Before P xs (n + 1)
before_more P xs n x h is before p k y below at =
    ⊎_elim (λ (l : k < n). before k y l at)
    (λ (e : k ≡ n). subst P (same_there xs n x y (read_at xs n x h is) (subst (λ i. slice_get xs i ≡ Some y) e at)) p)
    (below_or_at k n below)

-- what holds of the first so many, which are all, holds of each
pub before_all : {X : Type 0} (P : X → Type 0) (xs : List X) (n : ℕ) → length xs ≤ n → Before P xs n → (k : ℕ) (x : X) → slice_get xs k ≡ Some x → P x
before_all P xs n h before k x at = before k x (omega (arith, h, slice_get_within xs k x at)) at

pub before_in : {X : Type 0} (P : X → Type 0) (xs : List X) (n : ℕ) → length xs ≤ n → Before P xs n → (x : X) → Contains xs x → P x
before_in P xs n h before x there = let at = contains_at xs x there in before_all P xs n h before at.0 x at.1

-- what is at a place of a list is so of what it is mapped to
pub mapped_at : {A B : Type 0} (f : A → B) (xs : List A) (n : ℕ) (x : A) → slice_get xs n ≡ Some x → slice_get (map f xs) n ≡ Some (f x)
mapped_at f [] n x e = absurd (cc)
mapped_at f (y ∷ xs) zero x e = let g : y ≡ x = cc in ap (λ z. Some (f z)) g
mapped_at f (y ∷ xs) (suc n) x e = mapped_at f xs n x e

-- a place within a list has something
pub something_at : {X : Type 0} (xs : List X) (n : ℕ) → n < length xs → (x : X) × (slice_get xs n ≡ Some x)
something_at [] n h = absurd (omega (arith, h))
something_at (x ∷ xs) zero h = (x, refl)
something_at (x ∷ xs) (suc n) h = something_at xs n (omega (arith, h))

-- sums of smaller terms are smaller, and less where one is
pub sum_below : {X : Type 0} (f g : X → ℕ) (xs : List X) → ((x : X) → Contains xs x → f x ≤ g x) → sum_by f xs ≤ sum_by g xs
sum_below f g [] h = omega arith
sum_below f g (x ∷ xs) h =
    let here = h x (first_in x xs) in
    let rest = sum_below f g xs (λ y there. h y (further x xs y there)) in
    let e = sum_by-cons f x xs in
    let k = sum_by-cons g x xs in
    omega (arith, here, rest, e, k)

pub sum_less : {X : Type 0} (f g : X → ℕ) (xs : List X) (z : X) → ((x : X) → Contains xs x → f x ≤ g x) → Contains xs z → f z < g z → sum_by f xs < sum_by g xs
sum_less f g [] z h there less = absurd (none_in z there)
sum_less f g (x ∷ xs) z h there less =
    let here = h x (first_in x xs) in
    let rest = sum_below f g xs (λ y t. h y (further x xs y t)) in
    let p = sum_by-cons f x xs in
    let q = sum_by-cons g x xs in
    ⊎_elim
    (λ (e : x ≡ z). let l : f x < g x = subst (λ y. f y < g y) (sym e) less in omega (arith, l, rest, p, q))
    (λ (t : Contains xs z). let l = sum_less f g xs z (λ y u. h y (further x xs y u)) t less in omega (arith, here, l, p, q))
    (first_or_further x xs z there)

-- a place within a list has the same, whatever stands for the places past its end
pub same_item : {X : Type 0} (xs : List X) (k : ℕ) (d e : X) → k < length xs → get_or xs k d ≡ get_or xs k e
same_item [] k d e h = absurd (omega (arith, h))
same_item (x ∷ xs) zero d e h = refl
same_item (x ∷ xs) (suc k) d e h = same_item xs k d e (omega (arith, h))
