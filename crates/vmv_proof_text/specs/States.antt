-- The bounds and the marks that the canonical text of a state names.
use Rattle.std.specs.Prelude.{ℕ, zero, suc, ◌+◌, ◌==◌, not, Bool, ◌&&◌, ℤ, int_lt, List, [], ◌∷◌, ◌++◌, if◌then◌else◌}
use Rattle.vmv_zone.specs.declared.zone.Zone.{Zone}
use Rattle.vmv_zone.specs.Bounds.{top_bound}
use Rattle.vmv_zone.specs.Zone.{vars_of, bound_of, mark_of}

-- a bound on one thing minus another
abbrev pub Bound : Type 0
Bound = ℕ × ℕ × ℤ

-- the bound on i - j is below top's
abbrev pub is_named : Zone → ℕ → ℕ → Bool
is_named z i j = not (i == j) && int_lt (bound_of z i j) (top_bound i j)

abbrev pub named_bound : Zone → ℕ → ℕ → List Bound
named_bound z i j = if is_named z i j then (i, j, bound_of z i j) ∷ [] else []

-- those of them on i minus one of the first things
abbrev pub bounds_of_thing : Zone → ℕ → ℕ → List Bound
bounds_of_thing z i zero = []
bounds_of_thing z i (suc j) = bounds_of_thing z i j ++ named_bound z i j

abbrev pub bounds_of_things : Zone → ℕ → List Bound
bounds_of_things z zero = []
bounds_of_things z (suc i) = bounds_of_things z i ++ bounds_of_thing z i (vars_of z + 1)

-- all bounds that are below top's, by their first thing and then by their second
abbrev pub bounds_below_top : Zone → List Bound
bounds_below_top z = bounds_of_things z (vars_of z + 1)

abbrev pub marked_thing : Zone → ℕ → List ℕ
marked_thing z i = if mark_of z i then i ∷ [] else []

-- the marked ones of the first variables, in order
abbrev pub marked_things : Zone → ℕ → List ℕ
marked_things z zero = []
marked_things z (suc i) = marked_things z i ++ marked_thing z (i + 1)

abbrev pub marked_variables : Zone → List ℕ
marked_variables z = marked_things z (vars_of z)
