-- A list of zeros.
use Rattle.std.proofs.Common.{◌≡◌, ℕ, zero, suc, ◌*◌, ◌+◌, pos, ◌≤ℤ◌, get_or, replicate, refl, arith, rules, false}
use Rattle.std.proofs.lemmas.Int.{ints}
use Rattle.vmv_zone.specs.Bounds.{AreInReach, AreUnderTop, AreZeroOutside, AreOnVariables, AreBlank, IsMarkedIn, top_bound}

pub get_or-zeros : (n k : ℕ) → get_or (replicate n (pos 0)) k (pos 0) ≡ pos 0
get_or-zeros zero k = refl
get_or-zeros (suc n) zero = refl
get_or-zeros (suc n) (suc k) = get_or-zeros n k

pub zeros_reach : (n : ℕ) → AreInReach (replicate n (pos 0))
zeros_reach n k = rw get_or-zeros (record { low = omega (arith, ints); high = omega (arith, ints) })

pub top_from_zero : (i j : ℕ) → pos 0 ≤ℤ top_bound i j
top_from_zero i j = grind (arith, ints)

pub falses_unmarked : (n i : ℕ) → ¬ IsMarkedIn (replicate n false) i
falses_unmarked zero i t = absurd (search rules)
falses_unmarked (suc n) zero t = absurd (search rules)
falses_unmarked (suc n) (suc i) t = falses_unmarked n i t

pub zeros_blank : (n m : ℕ) → AreBlank (replicate n (pos 0)) (replicate m false)
zeros_blank n m = record { zeros = get_or-zeros n; unmarked = falses_unmarked m }

pub falses_on_variables : (n vars : ℕ) → AreOnVariables vars (replicate n false)
falses_on_variables n vars i t = absurd (falses_unmarked n i t)

pub zeros_outside : (n vars : ℕ) → AreZeroOutside vars (replicate n (pos 0))
zeros_outside n vars i j hi hj out = get_or-zeros n (18 * i + j)

pub zeros_under_top : (n vars : ℕ) → AreUnderTop vars (replicate n (pos 0))
zeros_under_top n vars i j hi hj = rw get_or-zeros (top_from_zero i j)
