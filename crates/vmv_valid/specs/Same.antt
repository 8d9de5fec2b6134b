-- Lists that hold the same numbers.
use Rattle.std.specs.Prelude.{◌↔◌, ℤ, List}
use Rattle.std.specs.List.{Contains}

-- the same numbers, in any order and any number of times
abbrev pub HaveSame : List ℤ → List ℤ → Type 0
HaveSame xs ys = (n : ℤ) → Contains xs n ↔ Contains ys n
