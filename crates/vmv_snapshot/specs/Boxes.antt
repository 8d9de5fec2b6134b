-- Ranges that are kept in an array of 16, with empty ones of 0 behind them.
use Rattle.std.specs.Prelude.{◌≡◌, ℕ, ◌-◌, ◌≤◌, ℤ, pos, List, ◌++◌, length, take, replicate}
use Rattle.std.proofs.Common.{ap, arith, length-append, length-take}
use Rattle.std.proofs.lemmas.List.{length-replicate}

abbrev pub Range : Type 0
Range = ℤ × ℤ

-- the array of 16 that holds the ranges
abbrev pub padded : List Range → List Range
padded ranges = ranges ++ replicate (16 - length ranges) (pos 0, pos 0)

-- ranges that are padded so are 16, so that their front has its length
pub length-padded_take : (ranges : List Range) (n : ℕ) → n ≤ 16 → ranges ≡ padded (take n ranges) → length (take n ranges) ≡ n
length-padded_take ranges n small h =
    let whole = ap length h in
    let joined = length-append (take n ranges) (replicate (16 - length (take n ranges)) (pos 0, pos 0)) in
    let zeros = length-replicate {A = Range} (16 - length (take n ranges)) (pos 0, pos 0) in
    omega (arith, length-take n ranges)
