-- Elements of lists by their places, and lists that go along with one another.
use Rattle.std.proofs.Common.{◌≡◌, ◌⊎◌, inl, inr, ⊎_elim, ℕ, zero, suc, ◌+◌, Some, List, [], ◌∷◌, ◌++◌, length, slice_get, refl, ap, subst, arith, ◌∙◌}
use Rattle.std.specs.List.{All, AllZip, Contains}
use Rattle.vmv_check.proofs.Lists.{some_same, got_in, of_all}

pub in_first : {X : Type 0} (xs ys : List X) (i : ℕ) (x : X) → slice_get xs i ≡ Some x → slice_get (xs ++ ys) i ≡ Some x
in_first [] ys i x e = absurd (cc)
in_first (y ∷ xs) ys zero x e = e
in_first (y ∷ xs) ys (suc i) x e = in_first xs ys i x e

pub in_second : {X : Type 0} (xs ys : List X) (i : ℕ) (x : X) → slice_get ys i ≡ Some x → slice_get (xs ++ ys) (length xs + i) ≡ Some x
in_second [] ys i x e = subst (λ j. slice_get ys j ≡ Some x) (let z : i ≡ 0 + i = omega arith in z) e
in_second (y ∷ xs) ys i x e =
    let s : suc (length xs + i) ≡ suc (length xs) + i = omega arith in
    subst (λ j. slice_get (y ∷ (xs ++ ys)) j ≡ Some x) s (in_second xs ys i x e)

-- these stand in the whole list from the c-th place on
abbrev pub AreIn : {X : Type 0} → List X → ℕ → List X → Type 0
AreIn whole c xs = (i : ℕ) (x : _) → slice_get xs i ≡ Some x → slice_get whole (c + i) ≡ Some x

pub are_first : {X : Type 0} (whole : List X) (c : ℕ) (xs ys : List X) → AreIn whole c (xs ++ ys) → AreIn whole c xs
are_first whole c xs ys are i x at = are i x (in_first xs ys i x at)

pub are_second : {X : Type 0} (whole : List X) (c : ℕ) (xs ys : List X) → AreIn whole c (xs ++ ys) → AreIn whole (c + length xs) ys
are_second whole c xs ys are i x at =
    let s : c + (length xs + i) ≡ (c + length xs) + i = omega arith in
    subst (λ j. slice_get whole j ≡ Some x) s (are (length xs + i) x (in_second xs ys i x at))

pub are_one : {X : Type 0} (whole : List X) (c : ℕ) (x : X) → AreIn whole c (x ∷ []) → slice_get whole c ≡ Some x
are_one whole c x are =
    let s : c + 0 ≡ c = omega arith in
    subst (λ j. slice_get whole j ≡ Some x) s (are 0 x refl)

pub are_whole : {X : Type 0} (whole : List X) → AreIn whole 0 whole
are_whole whole i x at = subst (λ j. slice_get whole j ≡ Some x) (let z : i ≡ 0 + i = omega arith in z) at

pub zip_at : {X Y : Type 0} (R : X → Y → Type 0) (xs : List X) (ys : List Y) (k : ℕ) (x : X) (y : Y) → AllZip R xs ys → slice_get xs k ≡ Some x → slice_get ys k ≡ Some y → R x y
zip_at R [] ys k x y all e f = absurd (cc)
zip_at R (a ∷ xs) [] k x y all e f = absurd all
zip_at R (a ∷ xs) (b ∷ ys) zero x y all e f = subst (λ v. R v y) (some_same e) (subst (λ v. R a v) (some_same f) all.0)
zip_at R (a ∷ xs) (b ∷ ys) (suc k) x y all e f = zip_at R xs ys k x y all.1 e f

-- an element of the one list has one of the other beside it
pub beside_right : {X Y : Type 0} (R : X → Y → Type 0) (xs : List X) (ys : List Y) (k : ℕ) (x : X) → AllZip R xs ys → slice_get xs k ≡ Some x → (y : Y) × (slice_get ys k ≡ Some y)
beside_right R [] ys k x all e = absurd (cc)
beside_right R (a ∷ xs) [] k x all e = absurd all
beside_right R (a ∷ xs) (b ∷ ys) zero x all e = (b, refl)
beside_right R (a ∷ xs) (b ∷ ys) (suc k) x all e = beside_right R xs ys k x all.1 e

pub beside_left : {X Y : Type 0} (R : X → Y → Type 0) (xs : List X) (ys : List Y) (k : ℕ) (y : Y) → AllZip R xs ys → slice_get ys k ≡ Some y → (x : X) × (slice_get xs k ≡ Some x)
beside_left R [] [] k y all e = absurd (cc)
beside_left R [] (b ∷ ys) k y all e = absurd all
beside_left R (a ∷ xs) [] k y all e = absurd all
beside_left R (a ∷ xs) (b ∷ ys) zero y all e = (a, refl)
beside_left R (a ∷ xs) (b ∷ ys) (suc k) y all e = beside_left R xs ys k y all.1 e

pub further : {X : Type 0} (y : X) (xs : List X) (x : X) → Contains xs x → Contains (y ∷ xs) x
further y xs x (k, h, e) = (suc k, omega (arith, h), e)

-- lists that are beside one another both ways are equal, where elements that are so are
pub zips_same : {X : Type 0} (R : X → X → Type 0) (P : X → Type 0) (xs ys : List X) → ((x y : X) → P x → P y → R x y → R y x → x ≡ y) → ((x : X) → Contains xs x → P x) → ((y : X) → Contains ys y → P y) →
    AllZip R xs ys → AllZip R ys xs → xs ≡ ys
zips_same R P [] [] same p q a b = refl
zips_same R P [] (y ∷ ys) same p q a b = absurd a
zips_same R P (x ∷ xs) [] same p q a b = absurd a
zips_same {X = X} R P (x ∷ xs) (y ∷ ys) same p q a b =
    let e : x ≡ y = same x y (p x (0, omega arith, refl)) (q y (0, omega arith, refl)) a.0 b.0 in
    let f : xs ≡ ys = zips_same R P xs ys same (λ u c. p u (further x xs u c)) (λ u c. q u (further y ys u c)) a.1 b.1 in
    ap (λ (v : X). v ∷ xs) e ∙ ap (λ (vs : List X). y ∷ vs) f

-- where it holds of all elements it holds of one
pub all_at : {X : Type 0} (P : X → Type 0) (xs : List X) (k : ℕ) (x : X) → All P xs → slice_get xs k ≡ Some x → P x
all_at P xs k x all e = of_all P xs all x (got_in xs k x e)

-- an element of two lists in a row stands in the first or in the second
pub either_part : {X : Type 0} (xs ys : List X) (i : ℕ) (x : X) → slice_get (xs ++ ys) i ≡ Some x → (slice_get xs i ≡ Some x) ⊎ ((d : ℕ) × (i ≡ length xs + d) × (slice_get ys d ≡ Some x))
either_part [] ys i x e = inr (i, omega arith, e)
either_part (y ∷ xs) ys zero x e = inl e
either_part {X = X} (y ∷ xs) ys (suc i) x e =
    ⊎_elim (λ (h : slice_get xs i ≡ Some x). inl h) (λ (h : (d : ℕ) × (i ≡ length xs + d) × (slice_get ys d ≡ Some x)). inr (h.0, (let f = h.1 in omega arith), h.2)) (either_part xs ys i x e)
