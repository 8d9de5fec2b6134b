-- Where an item stands in a list.
use Rattle.std.proofs.Common.{◌≡◌, ℕ, zero, suc, ◌+◌, ◌<◌, ◌≤◌, Bool, true, false, not, ◌||◌, cond, nat_lt, Option, Some, None, List, [], ◌∷◌, ◌++◌, length, map, slice_get, get_or, refl, sym, ap, subst, ◌∙◌, arith}
use Rattle.std.specs.List.{Contains, position, position_or_len, list_any}
use Rattle.std.proofs.lemmas.Option.{slice_get_read, slice_get_within, get_or_from_slice_get}
use Rattle.std.proofs.lemmas.Bool.Decides.{nat_tests}

pub contains_at : {X : Type 0} (xs : List X) (x : X) → Contains xs x → (k : ℕ) × (slice_get xs k ≡ Some x)
contains_at xs x (k, h, e) = (k, slice_get_read xs (length xs) k x refl h (sym e))

pub at_contains : {X : Type 0} (xs : List X) (k : ℕ) (x : X) → slice_get xs k ≡ Some x → Contains xs x
at_contains xs k x e = (k, slice_get_within xs k x e, get_or_from_slice_get xs k x x e)

-- the place of an item behind the first
pub past_first : {X : Type 0} (x : X) (xs : List X) (m n : ℕ) → m ≡ 1 + n → slice_get (x ∷ xs) m ≡ slice_get xs n
past_first x xs m n e = let s : m ≡ suc n = omega (arith, e) in ap (slice_get (x ∷ xs)) s

abbrev FirstPasses : {X : Type 0} → (X → Bool) → List X → ℕ → Type 0
FirstPasses p xs n = (x : _) × (slice_get xs n ≡ Some x) × (p x ≡ true)

first_or_further : {X : Type 0} (p : X → Bool) (x : X) (xs : List X) (n : ℕ) (b : Bool) → p x ≡ b → (n < length xs → FirstPasses p xs n) →
    cond (not b) (1 + n) 0 < length (x ∷ xs) → FirstPasses p (x ∷ xs) (cond (not b) (1 + n) 0)
first_or_further p x xs n true e further h = (x, refl, e)
first_or_further p x xs n false e further h =
    let f = further (omega (arith, h)) in
    (f.0, past_first x xs (1 + n) n refl ∙ f.1, f.2)

-- the first item that passes the test passes it
first_passes : {X : Type 0} (p : X → Bool) (xs : List X) → position_or_len p xs < length xs → FirstPasses p xs (position_or_len p xs)
first_passes p [] h = absurd (omega arith)
first_passes p (x ∷ xs) h = first_or_further p x xs (position_or_len p xs) (p x) refl (first_passes p xs) h

some_of : (b : Bool) (n i : ℕ) → cond b (Some n) None ≡ Some i → (b ≡ true) × (n ≡ i)
some_of true n i e = (refl, cc)
some_of false n i e = absurd (cc)

none_of : (b : Bool) (n : ℕ) → cond b (Some n) None ≡ None → b ≡ false
none_of true n e = absurd (cc)
none_of false n e = refl

below_of : (m n : ℕ) → nat_lt m n ≡ true → m < n
below_of m n h = grind (arith, nat_tests)

above_of : (m n : ℕ) → nat_lt m n ≡ false → n ≤ m
above_of m n h = grind (arith, nat_tests)

pub position_found : {X : Type 0} (p : X → Bool) (xs : List X) (i : ℕ) → position p xs ≡ Some i → (x : X) × (slice_get xs i ≡ Some x) × (p x ≡ true)
position_found p xs i e =
    let s = some_of (nat_lt (position_or_len p xs) (length xs)) (position_or_len p xs) i e in
    subst (FirstPasses p xs) s.1 (first_passes p xs (below_of _ _ s.0))

fails_before : {X : Type 0} (p : X → Bool) (x : X) (xs : List X) (n : ℕ) (b : Bool) → p x ≡ b → length (x ∷ xs) ≤ cond (not b) (1 + n) 0 → (b ≡ false) × (length xs ≤ n)
fails_before p x xs n true e h = absurd (omega arith)
fails_before p x xs n false e h = (refl, omega arith)

none_passes : {X : Type 0} (p : X → Bool) (xs : List X) → length xs ≤ position_or_len p xs → (n : ℕ) (x : X) → slice_get xs n ≡ Some x → p x ≡ false
none_passes p [] h n x e = absurd (cc)
none_passes p (y ∷ xs) h zero x e =
    let f = fails_before p y xs (position_or_len p xs) (p y) refl h in
    let same : y ≡ x = cc in
    ap p (sym same) ∙ f.0
none_passes p (y ∷ xs) h (suc n) x e =
    let f = fails_before p y xs (position_or_len p xs) (p y) refl h in
    none_passes p xs f.1 n x e

pub position_none : {X : Type 0} (p : X → Bool) (xs : List X) → position p xs ≡ None → (n : ℕ) (x : X) → slice_get xs n ≡ Some x → p x ≡ false
position_none p xs e = none_passes p xs (above_of _ _ (none_of _ _ e))

here_or : (b c : Bool) → b ≡ true → (b || c) ≡ true
here_or true c e = refl
here_or false c e = absurd (cc)

or_further : (b c : Bool) → c ≡ true → (b || c) ≡ true
or_further true c e = refl
or_further false c e = e

-- where an item passes the test, one does
pub some_passes : {X : Type 0} (p : X → Bool) (xs : List X) (n : ℕ) (x : X) → slice_get xs n ≡ Some x → p x ≡ true → list_any p xs ≡ true
some_passes p [] n x e h = absurd (cc)
some_passes p (y ∷ xs) zero x e h = let same : y ≡ x = cc in here_or (p y) (list_any p xs) (ap p same ∙ h)
some_passes p (y ∷ xs) (suc n) x e h = or_further (p y) (list_any p xs) (some_passes p xs n x e h)
