-- Threshold states, and the least one above a state.
use Rattle.std.specs.Prelude.{◌≡◌, ℕ, ◌≤◌, ◌<◌, ℤ, ◌≤ℤ◌, List, length, get_or, IsFalse}
use Rattle.std.specs.List.{Contains}
use Rattle.vmv_zone.specs.declared.zone.Zone.{Zone}
use Rattle.vmv_zone.specs.Zone.{bound_of, IsBelow}

-- the numbers don't fall
abbrev pub AreSorted : List ℤ → Type 0
AreSorted ts = (i j : ℕ) (d : ℤ) → i ≤ j → j < length ts → get_or ts i d ≤ℤ get_or ts j d

-- t is the least of the thresholds that is at least b
pub record IsLeastFrom (ts : List ℤ) (b t : ℤ) : Type 0 where
  pub one : Contains ts t
  pub above : b ≤ℤ t
  pub least : (u : ℤ) → Contains ts u → b ≤ℤ u → t ≤ℤ u

-- Bottom, or a state all of whose bounds are thresholds
abbrev pub IsThresholdState : List ℤ → Zone → Type 0
IsThresholdState ts z = IsFalse z.bottom → (i j : ℕ) → i ≤ z.vars → j ≤ z.vars → Contains ts (bound_of z i j)

-- r is the least threshold state above z
pub record IsRounded (ts : List ℤ) (z r : Zone) : Type 0 where
  pub vars : r.vars ≡ z.vars
  pub above : IsBelow z r
  pub threshold : IsThresholdState ts r
  pub least : (n : Zone) → n.vars ≡ z.vars → IsThresholdState ts n → IsBelow z n → IsBelow r n
