-- Lengths as a u64 tells them.
use Rattle.std.specs.Prelude.{◌≡◌, ℕ, ◌+◌, ◌^◌, ◌-◌, min}

-- a number, or the greatest of 64 bits where it is past that
unfoldable pub capped : ℕ → ℕ
capped n = min n (2 ^ 64 - 1)

-- from the one total to the other so much is added
abbrev pub Adds : ℕ → ℕ → ℕ → Type 0
Adds old new more = capped new ≡ capped (old + more)
