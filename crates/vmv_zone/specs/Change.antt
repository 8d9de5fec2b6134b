-- What a step did to the bounds.
use Rattle.std.specs.Prelude.{◌≡◌, ℕ, ◌<◌, ◌≤◌, ℤ, pos, ◌≤ℤ◌, List, get_or}
use Rattle.vmv_zone.specs.declared.paths.Change.{Change}
use Rattle.vmv_zone.specs.declared.paths.Change.TheVariants.{Same, Lower}
use Rattle.vmv_zone.specs.Bounds.{weight, Below, AreInReach, SameOutside}

-- Keep says which bounds are not to be lost
abbrev pub Changes : Change → ((ℕ → ℕ → ℤ) → Type 0) → ℕ → List ℤ → List ℤ → Type 0
Changes Same Keep vars old new = new ≡ old
Changes Lower Keep vars old new = weight new < weight old

-- a step lowers bounds, and keeps what is below
pub record Relaxes (change : Change) (Keep : (ℕ → ℕ → ℤ) → Type 0) (vars : ℕ) (old new : List ℤ) : Type 0 where
  pub reach : AreInReach new
  pub lower : (k : ℕ) → get_or new k (pos 0) ≤ℤ get_or old k (pos 0)
  pub falls : weight new ≤ weight old
  pub changes : Changes change Keep vars old new
  pub below : (n : ℕ → ℕ → ℤ) → Keep n → Below n vars old → Below n vars new
  pub outside : SameOutside vars old new

-- the bounds are as low as they get, and below the old ones
pub record Settles (Keep : (ℕ → ℕ → ℤ) → Type 0) (vars : ℕ) (old new : List ℤ) : Type 0 where
  pub reach : AreInReach new
  pub lower : (k : ℕ) → get_or new k (pos 0) ≤ℤ get_or old k (pos 0)
  pub below : (n : ℕ → ℕ → ℤ) → Keep n → Below n vars old → Below n vars new
  pub outside : SameOutside vars old new
