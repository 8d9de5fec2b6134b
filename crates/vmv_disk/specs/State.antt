-- What is told of an honest disk: the bytes that reads give, and what a crash may leave at each moment.
use Rattle.std.specs.Prelude.{◌≡◌, ℕ, ◌+◌, ◌<◌, ◌≤◌, ◌⊎◌, max, List, [], ◌∷◌, length, slice_index, ⊤}

-- so many bytes from a place on, into which a write has begun
pub record Stretch : Type 0 where
  pub at : ℕ
  pub size : ℕ

-- a moment: the bytes that the last Ok sync left, and the stretches whose writing has begun since, the latest first
pub record Moment : Type 0 where
  pub synced : List ℕ
  pub begun : List Stretch

-- what an honest disk tells: the bytes that reads give, the present moment, and the moments before it, the latest first
pub record DiskState : Type 0 where
  pub bytes : List ℕ
  pub present : Moment
  pub past : List Moment

-- the place lies in none of the stretches
abbrev pub IsOutside : List Stretch → ℕ → Type 0
IsOutside [] place = ⊤
IsOutside (stretch ∷ rest) place = ((place < stretch.at) ⊎ (stretch.at + stretch.size ≤ place)) × IsOutside rest place

-- the greatest end of so many bytes and of the stretches
abbrev pub greatest_end : ℕ → List Stretch → ℕ
greatest_end len [] = len
greatest_end len (stretch ∷ rest) = max (stretch.at + stretch.size) (greatest_end len rest)

-- a crash at the moment may leave these bytes: any in the stretches and past the synced ones, any length from theirs to
-- the greatest end, and the synced bytes everywhere else
pub record MayLeave (moment : Moment) (bytes : List ℕ) : Type 0 where
  pub no_shorter : length moment.synced ≤ length bytes
  pub no_longer : length bytes ≤ greatest_end (length moment.synced) moment.begun
  pub stay : (place : ℕ) → place < length moment.synced → IsOutside moment.begun place → slice_index bytes place ≡ slice_index moment.synced place

-- each moment of a disk, the latest first
abbrev pub moments : DiskState → List Moment
moments disk = disk.present ∷ disk.past
