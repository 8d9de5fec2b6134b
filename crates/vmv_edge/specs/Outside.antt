-- What is told of things outside: their counts of faults, and their content where they tell it.
use Rattle.std.specs.Prelude.{◌≡◌, ◌⊎◌, ℕ, ◌-◌, ◌^◌, ◌<◌, List, [], ◌++◌, length, take, Option, Some, None, Result, Ok, Err, ⊤}

-- a count of faults that is greater now, or stands at the last value of its type
abbrev pub Rose : ℕ → ℕ → Type 0
Rose before now = (before < now) ⊎ (now ≡ 2 ^ 64 - 1)

-- bytes that are those told, where any are
abbrev pub IsAsTold : Option (List ℕ) → List ℕ → Type 0
IsAsTold None bytes = ⊤
IsAsTold (Some told) bytes = bytes ≡ told

-- told bytes that are more than `most`
abbrev pub IsMoreThan : Option (List ℕ) → ℕ → Type 0
IsMoreThan None most = ⊤
IsMoreThan (Some told) most = most < length told

-- where bytes are told now, they are those told before, and then these
abbrev pub Appended : Option (List ℕ) → List ℕ → Option (List ℕ) → Type 0
Appended before bytes None = ⊤
Appended None bytes (Some now) = ⊥
Appended (Some before) bytes (Some now) = now ≡ before ++ bytes

-- the same of some first bytes of the piece
abbrev pub AppendedFront : Option (List ℕ) → List ℕ → Option (List ℕ) → Type 0
AppendedFront before piece now = (n : ℕ) × Appended before (take n piece) now

-- a write that took nothing of a piece of this length, which isn't empty
abbrev pub TookNothing : {E : Type 0} → Result ℕ E → ℕ → Type 0
TookNothing (Ok n) len = (n ≡ 0) × (0 < len)
TookNothing (Err e) len = ⊥

-- a write that is no fault: it took something, or its piece is empty
abbrev pub TookSome : {E : Type 0} → Result ℕ E → ℕ → Type 0
TookSome (Ok n) len = (0 < n) ⊎ (len ≡ 0)
TookSome (Err e) len = ⊥

-- where what is still to be read is told, these bytes were its front, and the rest is told now
abbrev pub WasRead : Option (List ℕ) → List ℕ → Option (List ℕ) → Type 0
WasRead None bytes now = ⊤
WasRead (Some before) bytes None = ⊥
WasRead (Some before) bytes (Some now) = before ≡ bytes ++ now

-- where what is still to be read is told, it is nothing
abbrev pub IsAtEnd : Option (List ℕ) → Type 0
IsAtEnd None = ⊤
IsAtEnd (Some rest) = rest ≡ []
