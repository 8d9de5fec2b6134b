-- Walks along the places that wait.
use Rattle.std.proofs.Common.{◌≡◌, ◌==◌, ◌≤◌, ◌+◌, ℕ, Bool, true, false, cond, ◌||◌, is_some, List, [], ◌∷◌, ◌++◌, map, length, take, drop, Option, Some, None, refl, ap, sym, ◌∙◌, arith, length-drop}
use Rattle.std.specs.List.{list_any}
use Rattle.std.proofs.lemmas.List.{nil_from_length, drop-drop, map-append}
use Rattle.vmv_links.specs.Lists.{first_of}
use Rattle.vmv_links.proofs.Walks.{first_of-drop}
use Rattle.vmv_desk.specs.Queues.{number_at, place_in}

-- a list without a first number is empty
pub none_first : (xs : List ℕ) → None ≡ first_of xs → xs ≡ []
none_first [] e = refl
none_first (x ∷ xs) e = absurd (cc e)

pub drop_all : (i : ℕ) (xs : List ℕ) → length xs ≤ i → drop i xs ≡ []
drop_all i xs past = let none : length (drop i xs) ≡ 0 = omega (arith, length-drop i xs) in nil_from_length (drop i xs) none

begins : (xs : List ℕ) (x : ℕ) → Some x ≡ first_of xs → xs ≡ x ∷ drop 1 xs
begins [] x e = absurd (cc e)
begins (y ∷ ys) x e = let same : x ≡ y = cc e in ap (λ z. z ∷ ys) (sym same)

-- what a walk has still to see begins with the place that it has come to
pub drop-first : (xs : List ℕ) (i x : ℕ) → Some x ≡ first_of (drop i xs) → drop i xs ≡ x ∷ drop (i + 1) xs
drop-first xs i x e = begins (drop i xs) x e ∙ ap (λ ys. x ∷ ys) (drop-drop 1 i xs)

-- the walk goes on past a place that has another number
pub place_past : (numbers : List ℕ) (number x : ℕ) (xs : List ℕ) (i : ℕ) → Some x ≡ first_of (drop i xs)
    → (number_at numbers x == number) ≡ false → place_in numbers number (drop i xs) ≡ place_in numbers number (drop (i + 1) xs)
place_past numbers number x xs i at other =
    ap (place_in numbers number) (drop-first xs i x at)
    ∙ ap (λ b. cond b (Some x) (place_in numbers number (drop (i + 1) xs))) other

pub place_here : (numbers : List ℕ) (number x : ℕ) (xs : List ℕ) (i : ℕ) → Some x ≡ first_of (drop i xs)
    → (number_at numbers x == number) ≡ true → place_in numbers number (drop i xs) ≡ Some x
place_here numbers number x xs i at same =
    ap (place_in numbers number) (drop-first xs i x at)
    ∙ ap (λ b. cond b (Some x) (place_in numbers number (drop (i + 1) xs))) same

pub place_end : (numbers : List ℕ) (number : ℕ) (xs : List ℕ) (i : ℕ) → None ≡ first_of (drop i xs) → None ≡ place_in numbers number (drop i xs)
place_end numbers number xs i at = sym (ap (place_in numbers number) (none_first (drop i xs) at))

pub place_over : (numbers : List ℕ) (number : ℕ) (xs : List ℕ) (i : ℕ) → length xs ≤ i → None ≡ place_in numbers number (drop i xs)
place_over numbers number xs i past = sym (ap (place_in numbers number) (drop_all i xs past))

any_step : (number x : ℕ) (rest : Option ℕ) (any b : Bool) → is_some rest ≡ any → is_some (cond b (Some x) rest) ≡ (b || any)
any_step number x rest any true e = refl
any_step number x rest any false e = e

-- a number has a place where it is among the numbers that wait
pub place_any : (numbers : List ℕ) (number : ℕ) (xs : List ℕ) → is_some (place_in numbers number xs) ≡ list_any (λ n. n == number) (map (number_at numbers) xs)
place_any numbers number [] = refl
place_any numbers number (x ∷ xs) =
    any_step number x (place_in numbers number xs) (list_any (λ n. n == number) (map (number_at numbers) xs)) (number_at numbers x == number) (place_any numbers number xs)

-- the numbers of the places that a walk has seen, with one more
pub seen_more : (numbers : List ℕ) (x : ℕ) (xs : List ℕ) (i : ℕ) → Some x ≡ first_of (drop i xs)
    → map (number_at numbers) (take i xs) ++ number_at numbers x ∷ [] ≡ map (number_at numbers) (take (i + 1) xs)
seen_more numbers x xs i at =
    sym (ap (map (number_at numbers)) (first_of-drop xs i x at).1 ∙ map-append (number_at numbers) (take i xs) (x ∷ []))
