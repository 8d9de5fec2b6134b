-- Numbers as a witness text writes them.
use Rattle.std.specs.Prelude.{◌≡◌, ◌≢◌, ◌⊎◌, ℕ, ◌<◌, ◌^◌, ℤ, List, ◌∷◌, length, slice_index, IsTrue, codes}
use Rattle.std.specs.Fmt.{decimal, signed_decimal}
use Rattle.std.specs.Char.{is_ascii_digit}
use Rattle.std.specs.List.{list_all}
use Rattle.vmv_tree.specs.Words.{IsWord}

-- decimal digits, at least one, and a 0 stands first only where it stands alone
abbrev pub IsNatural : List ℕ → Type 0
IsNatural digits = IsTrue (list_all is_ascii_digit digits) × (0 < length digits) × (slice_index digits 0 ≡ 48 → length digits ≡ 1)

-- a natural number, or a minus sign and a natural number other than 0, of any size
abbrev pub IsNumber : List ℕ → Type 0
IsNumber bytes = IsNatural bytes ⊎ ((digits : List ℕ) × (bytes ≡ 45 ∷ digits) × IsNatural digits × (digits ≢ codes "0"))

-- the digits of a number of a site, which is below 2^32
abbrev pub IsSiteNumber : List ℕ → Type 0
IsSiteNumber bytes = (k : ℕ) × (k < 2 ^ 32) × (bytes ≡ decimal k)

-- the digits of a word, behind a minus sign where it is negative
abbrev pub IsValue : List ℕ → Type 0
IsValue bytes = (z : ℤ) × IsWord z × (bytes ≡ signed_decimal z)
