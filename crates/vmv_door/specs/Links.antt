-- What a door tells of the links that it gives.
use Rattle.std.specs.Prelude.{◌≡◌, ℕ, List, [], ◌∷◌, ◌++◌, Option, Some, None, Result, Ok, Err}

-- the links that are still to be given, and those that were given back, both in their order
pub record Links (L : Type 0) : Type 0 where
  pub left : List L
  pub back : List L

-- how many links an answer gives
abbrev pub count_of : {L E : Type 0} → Result (Option L) E → ℕ
count_of (Ok (Some link)) = 1
count_of (Ok None) = 0
count_of (Err e) = 0

-- a link that is given is the first of those that were still to be given, and no other answer changes what is told
abbrev pub IsGiven : {L E : Type 0} → Result (Option L) E → Option (Links L) → Option (Links L) → Type 0
IsGiven (Ok (Some link)) None now = now ≡ None
IsGiven {L = L} (Ok (Some link)) (Some before) now = (rest : List L) × (before.left ≡ link ∷ rest) × (now ≡ Some (record { left = rest; back = before.back }))
IsGiven (Ok None) before now = now ≡ before
IsGiven (Err e) before now = now ≡ before

-- one more link was given back
abbrev pub with_back : {L : Type 0} → L → Links L → Links L
with_back link links = record { left = links.left; back = links.back ++ link ∷ [] }
