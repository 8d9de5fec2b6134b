-- Moves by sums with literals, taken together.
use Rattle.std.specs.Prelude.{ℤ, ◌+ℤ◌, ◌-ℤ◌, ◌≤ℤ◌, int_le, ◌&&◌, Option, Some, None, if◌then◌else◌}
use Rattle.std.specs.Int.{int_min, int_max}
use Rattle.vmv_demands.specs.declared.want.Want.{Want}
use Rattle.vmv_demands.specs.declared.want.Want.TheVariants.{Within, Except}
use Rattle.vmv_demands.specs.declared.shift.Shift.{Shift}
use Rattle.vmv_demands.specs.Wants.{least, greatest, nonempty}

-- its numbers are words
abbrev pub IsOfWords : Want → Type 0
IsOfWords (Within lo hi) = (least ≤ℤ lo) × (hi ≤ℤ greatest)
IsOfWords (Except c) = (least ≤ℤ c) × (c ≤ℤ greatest)

-- how much less a value becomes
abbrev pub by_of : Shift → ℤ
by_of s = s.lo -ℤ s.start

-- not this value, where it lies in the range
abbrev pub kept_from : ℤ → ℤ → ℤ → Option Want
kept_from lo hi c = if int_le lo c && int_le c hi then Some (Except c) else None

-- what is wanted of a value, where this is wanted of what it becomes
abbrev pub shifted : Shift → Want → Option Want
shifted s (Within lo hi) = nonempty (int_max (lo +ℤ by_of s) s.lo) (int_min (hi +ℤ by_of s) s.hi)
shifted s (Except c) = kept_from s.lo s.hi (c +ℤ by_of s)

-- where there is one
abbrev pub shifted_by : Option Shift → Want → Option Want
shifted_by (Some s) want = shifted s want
shifted_by None want = None

-- by both, the second first
abbrev pub and_shifted : Shift → Option Want → Option Want
and_shifted s (Some want) = shifted s want
and_shifted s None = None

abbrev pub shifted_twice : Shift → Shift → Want → Option Want
shifted_twice second first want = and_shifted first (shifted second want)
