-- Lines and columns, byte by byte.
use Rattle.std.proofs.Common.{ℕ, ◌+◌, ◌≤◌, List, length, take, arith, length-take}
use Rattle.std.specs.Prelude.{◌==◌, not}
use Rattle.std.proofs.lemmas.List.Sums.{suffix_len-le-length}
use Rattle.vmv_text.specs.Faults.{column_after}

pub column_within : (front : List ℕ) → column_after front ≤ 1 + length front
column_within front = omega (arith, suffix_len-le-length (λ b. not (b == 10)) front)

pub column_short : (front : List ℕ) (n : ℕ) → n ≤ length front → column_after (take n front) ≤ 1 + n
column_short front n h = omega (arith, column_within (take n front), length-take n front)
