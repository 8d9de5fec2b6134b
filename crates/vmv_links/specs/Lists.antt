use Rattle.std.specs.Prelude.{◌≡◌, ◌≢◌, ◌==◌, ℕ, ◌<◌, not, List, [], ◌∷◌, Option, Some, None, slice_index_or, length, filter, AllPairs, Contains}

-- lists of numbers below `size`
pub record Lists : Type 0 where
  pub size : ℕ
  pub lists : List (List ℕ)

-- the list of this number
abbrev pub list_at : List (List ℕ) → ℕ → List ℕ
list_at lists l = slice_index_or lists l []

-- the first number of a list
abbrev pub first_of : List ℕ → Option ℕ
first_of [] = None
first_of (x ∷ xs) = Some x

-- the list without the number x, the others in their order
abbrev pub without : ℕ → List ℕ → List ℕ
without x xs = filter (λ y. not (y == x)) xs

-- x stands in the list of this number
abbrev pub StandsIn : List (List ℕ) → ℕ → ℕ → Type 0
StandsIn lists l x = (l < length lists) × Contains (list_at lists l) x

-- x stands in some list
abbrev pub IsListed : List (List ℕ) → ℕ → Type 0
IsListed lists x = (l : ℕ) × StandsIn lists l x

-- each list has numbers below `size`, none of them twice, and no number stands in two lists
pub record IsApart (v : Lists) : Type 0 where
  pub small : (l x : ℕ) → StandsIn v.lists l x → x < v.size
  pub once : (l : ℕ) → l < length v.lists → AllPairs (λ x y. x ≢ y) (list_at v.lists l)
  pub one_list : (l m x : ℕ) → StandsIn v.lists l x → StandsIn v.lists m x → l ≡ m
