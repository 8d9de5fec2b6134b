-- The nearer of two words to 0.
use Rattle.std.specs.Prelude.{nat_le, ℤ, unsigned_abs, Option, Some, None, if◌then◌else◌}

-- the second where both are as near, or where there is no first
abbrev pub nearer_of : Option ℤ → Option ℤ → Option ℤ
nearer_of None above = above
nearer_of (Some low) None = Some low
nearer_of (Some low) (Some high) = if nat_le (unsigned_abs high) (unsigned_abs low) then Some high else Some low
