-- The submissions that wait, as places that are linked in two lists: those that wait, and those that are free.
use Rattle.std.specs.Prelude.{◌≡◌, ◌==◌, ℕ, ◌+◌, List, [], ◌∷◌, ◌++◌, length, map, nat_le, slice_index_or, Option, Some, None, if◌then◌else◌}
use Rattle.vmv_links.specs.Lists.{Lists, list_at}
use Rattle.vmv_keeper.specs.declared.project.Bench.{Bench}
use Rattle.vmv_keeper.specs.Changes.{without}

-- the number at a place
abbrev pub number_at : List ℕ → ℕ → ℕ
number_at numbers place = slice_index_or numbers place 0

-- the numbers that wait
abbrev pub numbers_in : List ℕ → Lists → List ℕ
numbers_in numbers links = map (number_at numbers) (list_at links.lists 0)

-- 32 places, each of which waits or is free
pub record IsQueue (numbers : List ℕ) (links : Lists) : Type 0 where
  pub places : length numbers ≡ 32
  pub size : links.size ≡ 32
  pub two : length links.lists ≡ 2
  pub all : length (list_at links.lists 0) + length (list_at links.lists 1) ≡ 32

-- one more number, last in order, where there is a free place
abbrev pub with_number : ℕ → Bench → Bench
with_number number bench = if nat_le 32 (length bench.pending) then bench else record bench { pending = bench.pending ++ number ∷ [] }

-- the queue without the number
abbrev pub without_number : ℕ → Bench → Bench
without_number number bench = record bench { pending = without (λ n. n == number) bench.pending }

-- the place of the first number that is this one
abbrev pub place_in : List ℕ → ℕ → List ℕ → Option ℕ
place_in numbers number [] = None
place_in numbers number (place ∷ rest) = if number_at numbers place == number then Some place else place_in numbers number rest
