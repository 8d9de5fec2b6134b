-- A state that is another one with a property added: the normal states below it are those below the other that have it.
use Rattle.std.specs.Prelude.{◌≡◌, ◌+◌, ◌≤◌, ℕ, IsFalse}
use Rattle.vmv_zone.specs.declared.zone.Zone.{Zone}
use Rattle.vmv_zone.specs.Bounds.{bound_at, IsClosed}
use Rattle.vmv_zone.specs.Zone.{bound_of, mark_of, IsNormal, IsTighter, HasNormalBounds}

-- a normal state other than Bottom
pub record IsProper (z : Zone) : Type 0 where
  pub not_bottom : IsFalse z.bottom
  pub normal : HasNormalBounds z

-- no path lowers a bound
abbrev pub HasClosedBounds : Zone → Type 0
HasClosedBounds z = IsFalse z.bottom → IsClosed (bound_at z.bounds) z.vars

pub record Confines (count : ℕ) (Has : Zone → Type 0) (old new : Zone) : Type 0 where
  pub vars : new.vars ≡ count
  pub within : (n : Zone) → n.vars ≡ count → IsProper n → IsTighter n new → IsTighter n old
  pub has : (n : Zone) → n.vars ≡ count → IsProper n → IsTighter n new → Has n
  pub all : (n : Zone) → n.vars ≡ count → IsProper n → IsTighter n old → Has n → IsTighter n new
  pub closed : HasClosedBounds old → HasClosedBounds new

-- new has one variable more than old, and tells the same of the others
pub record Extends (old new : Zone) : Type 0 where
  pub vars : new.vars ≡ old.vars + 1
  pub bounds : (i j : ℕ) → i ≤ old.vars → j ≤ old.vars → bound_of new i j ≡ bound_of old i j
  pub marks : (i : ℕ) → i ≤ old.vars → mark_of new i ≡ mark_of old i
  pub normal : IsNormal old → IsNormal new
