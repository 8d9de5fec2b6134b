-- How far states can still rise, and how often threshold states can have risen.
use Rattle.std.specs.Prelude.{ℕ, zero, suc, ◌+◌, ◌-◌, ◌^◌, if◌then◌else◌, ℤ, pos, negsuc, int_lt, List, sum_by, count_by}
use Rattle.vmv_zone.specs.declared.zone.Zone.{Zone}
use Rattle.vmv_zone.specs.Zone.{vars_of, bound_of, mark_of}

-- f 0 + .. + f (n - 1)
abbrev pub total_to : ℕ → (ℕ → ℕ) → ℕ
total_to zero f = 0
total_to (suc n) f = f n + total_to n f

-- the sum over all pairs of things of a state with so many variables
abbrev pub pairs_to : ℕ → (ℕ → ℕ → ℕ) → ℕ
pairs_to vars f = total_to (suc vars) (λ i. total_to (suc vars) (λ j. f i j))

-- how far a bound is below the highest, 2^64 - 1
abbrev pub depth : ℤ → ℕ
depth (pos b) = (2 ^ 64 - 1) - b
depth (negsuc b) = 2 ^ 64 + b

-- how far a state can still rise: its bounds can rise, its marks can go, and Bottom is below all of this
abbrev pub room : Zone → ℕ
room z =
    if z.bottom then 1 + (pairs_to (vars_of z) (λ i j. 2 ^ 65) + vars_of z)
    else pairs_to (vars_of z) (λ i j. depth (bound_of z i j)) + total_to (vars_of z) (λ i. if mark_of z (i + 1) then 1 else 0)

abbrev pub rooms : List Zone → ℕ
rooms zs = sum_by room zs

-- how often a threshold state can have risen: from Bottom, at each bound over the thresholds below it, and at each variable
-- that isn't marked
abbrev pub rank : List ℤ → Zone → ℕ
rank ts z =
    if z.bottom then 0
    else 1 + (pairs_to (vars_of z) (λ i j. count_by (λ t. int_lt t (bound_of z i j)) ts) + total_to (vars_of z) (λ i. if mark_of z (i + 1) then 0 else 1))

abbrev pub ranks : List ℤ → List Zone → ℕ
ranks ts zs = sum_by (rank ts) zs
