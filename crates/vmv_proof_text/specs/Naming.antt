-- Which bounds the text of a state names.
use Rattle.std.specs.Prelude.{◌≡◌, ◌≢◌, ◌⊎◌, ℕ, ◌<◌, ◌≤◌, List, [], ◌∷◌}
use Rattle.std.specs.List.{Contains}
use Rattle.vmv_zone.specs.declared.zone.Zone.{Zone}
use Rattle.vmv_zone.specs.Bounds.{top_bound}
use Rattle.vmv_zone.specs.Zone.{vars_of, bound_of}
use Rattle.vmv_proof_text.specs.States.{Bound}

-- by the first thing, then by the second
abbrev pub Precedes : Bound → Bound → Type 0
Precedes b c = (b.0 < c.0) ⊎ ((b.0 ≡ c.0) × (b.1 < c.1))

-- each stands before the next
abbrev pub AreSorted : List Bound → Type 0
AreSorted [] = Unit {0}
AreSorted (b ∷ bounds) = ((c : Bound) → Contains bounds c → Precedes b c) × AreSorted bounds

-- a bound of the state on a thing minus another
pub record IsBoundOf (z : Zone) (b : Bound) : Type 0 where
  pub first : b.0 ≤ vars_of z
  pub second : b.1 ≤ vars_of z
  pub other : b.0 ≢ b.1
  pub same : b.2 ≡ bound_of z b.0 b.1

-- the state has these bounds, sorted and each once, and top's where none is named
pub record IsNaming (z : Zone) (bounds : List Bound) : Type 0 where
  pub sorted : AreSorted bounds
  pub each : (b : Bound) → Contains bounds b → IsBoundOf z b
  pub others : (i j : ℕ) → i ≤ vars_of z → j ≤ vars_of z → ((b : Bound) → Contains bounds b → (b.0 ≡ i) × (b.1 ≡ j) → ⊥) → bound_of z i j ≡ top_bound i j
