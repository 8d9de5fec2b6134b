-- The state in which a procedure starts.
use Rattle.std.specs.Prelude.{◌≡◌, ◌+◌, ℕ, ◌≤◌, ◌&&◌, ◌||◌, ◌==◌, nat_lt, nat_le, if◌then◌else◌, ℤ, pos, Bool, false, Option, Some, None, length}
use Rattle.vmv_tree.specs.Tree.{Item, outside, helper, entry}
use Rattle.vmv_zone.specs.declared.zone.Zone.{Zone}
use Rattle.vmv_zone.specs.Bounds.{top_bound}
use Rattle.vmv_zone.specs.Zone.{vars_of, IsBottom, NotBottom, bound_of, mark_of, IsNormOf}

-- how many names a procedure declares
abbrev pub declared_count : Item → ℕ
declared_count (outside name arity) = 0
declared_count (helper name params body) = length body.vars
declared_count (entry name params body) = length body.vars

-- i is a declared name's variable: one of those that stand behind so many parameters
abbrev pub is_declared : ℕ → ℕ → ℕ → Bool
is_declared params declared i = nat_lt params i && nat_le i (params + declared)

-- the bound on i - j: the input's between parameters, 0 between a declared name and 0, else top's
abbrev pub entered_bound : Zone → ℕ → ℕ → ℕ → ℕ → ℤ
entered_bound input params declared i j =
    if nat_le i params && nat_le j params then bound_of input i j
    else if (is_declared params declared i && j == 0) || (i == 0 && is_declared params declared j) then pos 0 else top_bound i j

-- z has the input's bounds and marks on the parameters, 0 for each declared name, and top's bounds on the loops' slots
pub record IsStart (input : Zone) (params declared count : ℕ) (z : Zone) : Type 0 where
  pub vars : vars_of z ≡ count
  pub not_bottom : NotBottom z
  pub bounds : (i j : ℕ) → i ≤ count → j ≤ count → bound_of z i j ≡ entered_bound input params declared i j
  pub marks : (i : ℕ) → i ≤ count → mark_of z i ≡ (if nat_le i params then mark_of input i else false)

-- r is the state in which a procedure with so many parameters, declared names and variables starts
pub record IsEntered (input : Zone) (params declared count : ℕ) (r : Zone) : Type 0 where
  pub vars : vars_of r ≡ count
  pub bottom : IsBottom input → IsBottom r
  pub entered : NotBottom input → (start : Zone) × IsStart input params declared count start × IsNormOf start r

-- how many names an item declares, where it is a procedure
abbrev pub IsProcOf : Item → Option ℕ → Type 0
IsProcOf (outside name arity) found = found ≡ None
IsProcOf (helper name params body) found = found ≡ Some (length body.vars)
IsProcOf (entry name params body) found = found ≡ Some (length body.vars)
