-- Members of lists, and counts of them.
use Rattle.std.proofs.Common.{◌≡◌, ◌⊎◌, inl, inr, ⊎_elim, ℕ, zero, suc, ◌+◌, ◌<◌, Bool, true, false, cond, Some, List, [], ◌∷◌, ◌++◌, length, take, count_by, filter, map, drop, get_or, slice_get, refl, sym, ap, subst, arith, ◌∙◌}
use Rattle.std.specs.List.{Contains, AllZip}
use Rattle.std.proofs.lemmas.List.Sums.{sum_by_push, length-filter}

pub none_in : {X : Type 0} (x : X) → Contains [] x → ⊥
none_in x (k, h, e) = absurd (omega (arith, h))

pub first_in : {X : Type 0} (x : X) (xs : List X) → Contains (x ∷ xs) x
first_in x xs = (0, omega arith, refl)

pub later_in : {X : Type 0} (y : X) (xs : List X) (x : X) → Contains xs x → Contains (y ∷ xs) x
later_in y xs x (k, h, e) = (suc k, omega (arith, h), e)

pub first_or_later : {X : Type 0} (x : X) (xs : List X) (y : X) → Contains (x ∷ xs) y → (x ≡ y) ⊎ Contains xs y
first_or_later x xs y (zero, h, e) = inl e
first_or_later x xs y (suc k, h, e) = inr (k, omega (arith, h), e)

pub append_left : {X : Type 0} (xs ys : List X) (x : X) → Contains xs x → Contains (xs ++ ys) x
append_left [] ys x h = absurd (none_in x h)
append_left (y ∷ xs) ys x h = ⊎_elim (λ (e : y ≡ x). (0, omega arith, e)) (λ (g : Contains xs x). later_in y (xs ++ ys) x (append_left xs ys x g)) (first_or_later y xs x h)

pub append_right : {X : Type 0} (xs ys : List X) (x : X) → Contains ys x → Contains (xs ++ ys) x
append_right [] ys x h = h
append_right (y ∷ xs) ys x h = later_in y (xs ++ ys) x (append_right xs ys x h)

pub take_in : {X : Type 0} (n : ℕ) (xs : List X) (x : X) → Contains (take n xs) x → Contains xs x
take_in zero xs x h = absurd (none_in x h)
take_in (suc n) [] x h = h
take_in (suc n) (y ∷ xs) x h = ⊎_elim (λ (e : y ≡ x). (0, omega arith, e)) (λ (g : Contains (take n xs) x). later_in y xs x (take_in n xs x g)) (first_or_later y (take n xs) x h)

-- what is counted 0 times isn't there
none_filtered : {X : Type 0} (p : X → Bool) (xs : List X) (x : X) → length (filter p xs) ≡ 0 → Contains xs x → p x ≡ false
none_filtered p [] x e (k, h, is) = absurd (omega (arith, h))
none_filtered p (y ∷ xs) x e (zero, h, is) = subst (λ z. p z ≡ false) is (first (p y) refl)
  where
    first : (b : Bool) → p y ≡ b → p y ≡ false
    first true t = let c : length (filter p (y ∷ xs)) ≡ suc (length (filter p xs)) = rw t refl in absurd (omega (arith, c, e))
    first false f = f
none_filtered p (y ∷ xs) x e (suc k, h, is) = none_filtered p xs x (rest (p y) refl) (k, omega (arith, h), is)
  where
    rest : (b : Bool) → p y ≡ b → length (filter p xs) ≡ 0
    rest true t = let c : length (filter p (y ∷ xs)) ≡ suc (length (filter p xs)) = rw t refl in absurd (omega (arith, c, e))
    rest false f = let c : length (filter p (y ∷ xs)) ≡ length (filter p xs) = rw f refl in sym c ∙ e

pub none_counted : {X : Type 0} (p : X → Bool) (xs : List X) (x : X) → count_by p xs ≡ 0 → Contains xs x → p x ≡ false
none_counted p xs x e there = none_filtered p xs x (length-filter p xs ∙ e) there

-- one more item
pub count_one : {X : Type 0} (p : X → Bool) (xs : List X) (x : X) → count_by p (xs ++ x ∷ []) ≡ count_by p xs + cond (p x) 1 0
count_one p xs x = sum_by_push (λ y. cond (p y) 1 0) xs x

-- a list is what stands before one of its items, the item, and what stands behind it
pub split_here : {X : Type 0} (xs : List X) (i : ℕ) (x : X) → i < length xs → x ≡ get_or xs i x → xs ≡ take i xs ++ x ∷ drop (suc i) xs
split_here [] i x h e = absurd (omega arith)
split_here (y ∷ xs) zero x h e = ap (λ z. z ∷ xs) (sym e)
split_here (y ∷ xs) (suc i) x h e = ap (λ ys. y ∷ ys) (split_here xs i x (omega (arith, h)) e)

some_is : {X : Type 0} {x y : X} → Some x ≡ Some y → x ≡ y
some_is e = cc

-- two lists that agree place by place
pub zip_of : {A B : Type 0} (R : A → B → Type 0) (xs : List A) (ys : List B) → length xs ≡ length ys → ((k : ℕ) (x : A) (y : B) → slice_get xs k ≡ Some x → slice_get ys k ≡ Some y → R x y) → AllZip R xs ys
zip_of R [] [] e each = tt
zip_of R [] (y ∷ ys) e each = absurd (omega (arith, e))
zip_of R (x ∷ xs) [] e each = absurd (omega (arith, e))
zip_of R (x ∷ xs) (y ∷ ys) e each = (each 0 x y refl refl, zip_of R xs ys (omega (arith, e)) (λ k. each (suc k)))

pub zip_at : {A B : Type 0} (R : A → B → Type 0) (xs : List A) (ys : List B) (k : ℕ) (x : A) (y : B) → AllZip R xs ys → slice_get xs k ≡ Some x → slice_get ys k ≡ Some y → R x y
zip_at R [] ys k x y zip e f = absurd (cc)
zip_at R (a ∷ xs) [] k x y zip e f = absurd (cc)
zip_at {A} {B} R (a ∷ xs) (b ∷ ys) zero x y zip e f = subst (λ (v : A). R v y) (some_is e) (subst (λ (v : B). R a v) (some_is f) zip.0)
zip_at R (a ∷ xs) (b ∷ ys) (suc k) x y zip e f = zip_at R xs ys k x y zip.1 e f

pub map_of : {A B : Type 0} (g : A → B) (xs : List A) (ys : List B) → length xs ≡ length ys → ((k : ℕ) (x : A) (y : B) → slice_get xs k ≡ Some x → slice_get ys k ≡ Some y → g x ≡ y) → map g xs ≡ ys
map_of g [] [] e each = refl
map_of g [] (y ∷ ys) e each = absurd (omega (arith, e))
map_of g (x ∷ xs) [] e each = absurd (omega (arith, e))
map_of {A} {B} g (x ∷ xs) (y ∷ ys) e each = let h = each 0 x y refl refl in let t = map_of g xs ys (omega (arith, e)) (λ k. each (suc k)) in (λ i. h i ∷ t i)

map_got : {A B : Type 0} (g : A → B) (xs : List A) (k : ℕ) (x : A) → slice_get xs k ≡ Some x → slice_get (map g xs) k ≡ Some (g x)
map_got g [] k x e = absurd (cc)
map_got g (a ∷ xs) zero x e = ap (λ v. Some (g v)) (some_is e)
map_got g (a ∷ xs) (suc k) x e = map_got g xs k x e

pub map_same : {A B : Type 0} (g : A → B) (xs : List A) (ys : List B) (k : ℕ) (x : A) (y : B) → map g xs ≡ ys → slice_get xs k ≡ Some x → slice_get ys k ≡ Some y → g x ≡ y
map_same {A} {B} g xs ys k x y e a b = some_is (sym (map_got g xs k x a) ∙ (ap (λ (zs : List B). slice_get zs k) e ∙ b))

-- an item by its place
pub item_got : {X : Type 0} (xs : List X) (i : ℕ) (x : X) → i < length xs → x ≡ get_or xs i x → slice_get xs i ≡ Some x
item_got [] i x h e = absurd (omega arith)
item_got (y ∷ xs) zero x h e = ap (λ z. Some z) (sym e)
item_got (y ∷ xs) (suc i) x h e = item_got xs i x (omega (arith, h)) e

below_or_same : (i k : ℕ) → i < k + 1 → (i < k) ⊎ (i ≡ k)
below_or_same zero zero h = inr refl
below_or_same zero (suc k) h = inl (omega arith)
below_or_same (suc i) zero h = absurd (omega (arith, h))
below_or_same (suc i) (suc k) h = ⊎_elim (λ (l : i < k). inl (omega (arith, l))) (λ (e : i ≡ k). inr (ap suc e)) (below_or_same i k (omega (arith, h)))

-- one place more at which two lists agree
pub agree_more : {A B : Type 0} (R : A → B → Type 0) (xs : List A) (ys : List B) (i : ℕ) (x : A) (y : B) → slice_get xs i ≡ Some x → slice_get ys i ≡ Some y → R x y → ((k : ℕ) (a : A) (b : B) → k < i → slice_get xs k ≡ Some a → slice_get ys k ≡ Some b → R a b) →
    (k : ℕ) (a : A) (b : B) → k < i + 1 → slice_get xs k ≡ Some a → slice_get ys k ≡ Some b → R a b
agree_more {A} {B} R xs ys i x y at bt r old k a b below ka kb =
    ⊎_elim (λ (l : k < i). old k a b l ka kb)
    (λ (e : k ≡ i).
    let f : x ≡ a = some_is (sym at ∙ subst (λ (n : ℕ). slice_get xs n ≡ Some a) e ka) in
    let g : y ≡ b = some_is (sym bt ∙ subst (λ (n : ℕ). slice_get ys n ≡ Some b) e kb) in
    subst (λ (v : A). R v b) f (subst (λ (v : B). R x v) g r))
    (below_or_same k i below)
