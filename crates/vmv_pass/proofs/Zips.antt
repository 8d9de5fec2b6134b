-- Lists with one element changed, and lists that go along with one another.
use Rattle.std.proofs.Common.{◌≡◌, ◌⊎◌, inl, inr, ⊎_elim, ℕ, zero, suc, ◌+◌, Some, List, [], ◌∷◌, ◌++◌, length, map, get_or, slice_get, slice_set, refl, sym, ap, subst, arith, ◌∙◌, ◌<◌}
use Rattle.std.specs.List.{All, AllZip, sum_by}
use Rattle.std.proofs.lemmas.List.Sums.{sum_by-set}
use Rattle.std.proofs.lemmas.Option.{get_or_from_slice_get}
use Rattle.vmv_check.proofs.Lists.{some_same, got_in, of_all, within}

pub set_same : {X : Type 0} (xs : List X) (k : ℕ) (x y : X) → slice_get xs k ≡ Some y → slice_get (slice_set xs k x) k ≡ Some x
set_same [] k x y e = absurd (cc)
set_same (z ∷ xs) zero x y e = refl
set_same (z ∷ xs) (suc k) x y e = set_same xs k x y e

pub set_other : {X : Type 0} (xs : List X) (k i : ℕ) (x : X) → (i ≡ k → ⊥) → slice_get (slice_set xs k x) i ≡ slice_get xs i
set_other [] k i x other = refl
set_other (z ∷ xs) zero zero x other = absurd (other refl)
set_other (z ∷ xs) zero (suc i) x other = refl
set_other (z ∷ xs) (suc k) zero x other = refl
set_other (z ∷ xs) (suc k) (suc i) x other = set_other xs k i x (λ e. other (ap suc e))

pub set_long : {X : Type 0} (xs : List X) (k : ℕ) (x : X) → length (slice_set xs k x) ≡ length xs
set_long [] k x = refl
set_long (z ∷ xs) zero x = refl
set_long (z ∷ xs) (suc k) x = ap suc (set_long xs k x)

pub get_map : {X Y : Type 0} (f : X → Y) (xs : List X) (k : ℕ) (x : X) → slice_get xs k ≡ Some x → slice_get (map f xs) k ≡ Some (f x)
get_map f [] k x e = absurd (cc)
get_map f (y ∷ xs) zero x e = ap (λ z. Some (f z)) (some_same e)
get_map f (y ∷ xs) (suc k) x e = get_map f xs k x e

pub map_set : {X Y : Type 0} (f : X → Y) (xs : List X) (k : ℕ) (x y : X) → slice_get xs k ≡ Some y → f x ≡ f y → map f (slice_set xs k x) ≡ map f xs
map_set f [] k x y e same = absurd (cc)
map_set f (z ∷ xs) zero x y e same = ap (λ v. v ∷ map f xs) (same ∙ ap f (sym (some_same e)))
map_set f (z ∷ xs) (suc k) x y e same = ap (λ vs. f z ∷ vs) (map_set f xs k x y e same)

pub zip_at : {X Y : Type 0} (R : X → Y → Type 0) (xs : List X) (ys : List Y) (k : ℕ) (x : X) (y : Y) → AllZip R xs ys → slice_get xs k ≡ Some x → slice_get ys k ≡ Some y → R x y
zip_at R [] ys k x y all e f = absurd (cc)
zip_at R (a ∷ xs) [] k x y all e f = absurd all
zip_at R (a ∷ xs) (b ∷ ys) zero x y all e f = subst (λ v. R v y) (some_same e) (subst (λ v. R a v) (some_same f) all.0)
zip_at R (a ∷ xs) (b ∷ ys) (suc k) x y all e f = zip_at R xs ys k x y all.1 e f

pub zip_set_left : {X Y : Type 0} (R : X → Y → Type 0) (xs : List X) (ys : List Y) (k : ℕ) (x : X) (y : Y) → AllZip R xs ys → slice_get ys k ≡ Some y → R x y → AllZip R (slice_set xs k x) ys
zip_set_left R [] ys k x y all f r = all
zip_set_left R (a ∷ xs) [] k x y all f r = absurd all
zip_set_left R (a ∷ xs) (b ∷ ys) zero x y all f r = (subst (λ v. R x v) (sym (some_same f)) r, all.1)
zip_set_left R (a ∷ xs) (b ∷ ys) (suc k) x y all f r = (all.0, zip_set_left R xs ys k x y all.1 f r)

pub zip_same : {X : Type 0} (R : X → X → Type 0) (xs : List X) → ((z : X) → R z z) → AllZip R xs xs
zip_same R [] same = tt
zip_same R (x ∷ xs) same = (same x, zip_same R xs same)

pub zip_set : {X : Type 0} (R : X → X → Type 0) (xs : List X) (k : ℕ) (x y : X) → ((z : X) → R z z) → slice_get xs k ≡ Some y → R y x → AllZip R xs (slice_set xs k x)
zip_set R [] k x y same e r = tt
zip_set R (a ∷ xs) zero x y same e r = (subst (λ v. R v x) (sym (some_same e)) r, zip_same R xs same)
zip_set R (a ∷ xs) (suc k) x y same e r = (same a, zip_set R xs k x y same e r)

pub zip_chain : {X : Type 0} (R : X → X → Type 0) (xs ys zs : List X) → ((x y z : X) → R x y → R y z → R x z) → AllZip R xs ys → AllZip R ys zs → AllZip R xs zs
zip_chain R [] [] [] chain a b = tt
zip_chain R [] [] (z ∷ zs) chain a b = absurd b
zip_chain R [] (y ∷ ys) zs chain a b = absurd a
zip_chain R (x ∷ xs) [] zs chain a b = absurd a
zip_chain R (x ∷ xs) (y ∷ ys) [] chain a b = absurd b
zip_chain R (x ∷ xs) (y ∷ ys) (z ∷ zs) chain a b = (chain x y z a.0 b.0, zip_chain R xs ys zs chain a.1 b.1)

-- where it holds of all elements it holds of one
pub all_at : {X : Type 0} (P : X → Type 0) (xs : List X) (k : ℕ) (x : X) → All P xs → slice_get xs k ≡ Some x → P x
all_at P xs k x all e = of_all P xs all x (got_in xs k x e)

pub all_set : {X : Type 0} (P : X → Type 0) (xs : List X) (k : ℕ) (x : X) → All P xs → P x → All P (slice_set xs k x)
all_set P [] k x all p j d h = absurd (omega arith)
all_set P (y ∷ xs) zero x all p zero d h = p
all_set P (y ∷ xs) zero x all p (suc j) d h = all (suc j) d h
all_set P (y ∷ xs) (suc k) x all p zero d h = all 0 d (omega arith)
all_set P (y ∷ xs) (suc k) x all p (suc j) d h = all_set P xs k x (λ i e g. all (suc i) e (omega (arith, g))) p j d (omega (arith, h))

pub sum_set : {X : Type 0} (f : X → ℕ) (xs : List X) (k : ℕ) (x y : X) → slice_get xs k ≡ Some y → sum_by f (slice_set xs k x) + f y ≡ sum_by f xs + f x
sum_set f xs k x y e =
    let a = sum_by-set f xs k x y (within xs k y e) in
    let b : f (get_or xs k y) ≡ f y = ap f (get_or_from_slice_get xs k y y e) in
    omega arith

-- of two lists in a row, an element of the first, and one of the second
pub in_first : {X : Type 0} (xs ys : List X) (i : ℕ) (x : X) → slice_get xs i ≡ Some x → slice_get (xs ++ ys) i ≡ Some x
in_first [] ys i x e = absurd (cc)
in_first (y ∷ xs) ys zero x e = e
in_first (y ∷ xs) ys (suc i) x e = in_first xs ys i x e

pub in_second : {X : Type 0} (xs ys : List X) (i : ℕ) (x : X) → slice_get ys i ≡ Some x → slice_get (xs ++ ys) (length xs + i) ≡ Some x
in_second [] ys i x e = subst (λ j. slice_get ys j ≡ Some x) (let z : i ≡ 0 + i = omega arith in z) e
in_second (y ∷ xs) ys i x e =
    let s : suc (length xs + i) ≡ suc (length xs) + i = omega arith in
    subst (λ j. slice_get (y ∷ (xs ++ ys)) j ≡ Some x) s (in_second xs ys i x e)

pub append_long : {X : Type 0} (xs ys : List X) → length (xs ++ ys) ≡ length xs + length ys
append_long [] ys = omega arith
append_long (x ∷ xs) ys = let s = append_long xs ys in omega arith

pub set_cases : {X : Type 0} (xs : List X) (k i : ℕ) (x y : X) → slice_get (slice_set xs k x) i ≡ Some y → ((i ≡ k) × (x ≡ y)) ⊎ (slice_get xs i ≡ Some y)
set_cases [] k i x y e = inr e
set_cases (z ∷ xs) zero zero x y e = inl (refl, some_same e)
set_cases (z ∷ xs) zero (suc i) x y e = inr e
set_cases (z ∷ xs) (suc k) zero x y e = inr e
set_cases (z ∷ xs) (suc k) (suc i) x y e =
    ⊎_elim (λ (h : (i ≡ k) × (x ≡ y)). inl (ap suc h.0, h.1)) (λ (h : slice_get xs i ≡ Some y). inr h) (set_cases xs k i x y e)

-- what was put at a place is what stands there
pub set_here : {X : Type 0} (xs : List X) (k : ℕ) (x y : X) → k < length xs → slice_get (slice_set xs k x) k ≡ Some y → x ≡ y
set_here [] k x y h e = absurd (omega arith)
set_here (z ∷ xs) zero x y h e = some_same e
set_here (z ∷ xs) (suc k) x y h e = set_here xs k x y (omega (arith, h)) e
