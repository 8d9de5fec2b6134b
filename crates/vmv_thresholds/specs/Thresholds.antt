-- The thresholds of an entry, as a list.
use Rattle.std.specs.Prelude.{ℕ, ℤ, ◌<ℤ◌, ◌↔◌, List}
use Rattle.std.specs.List.{AllPairs, Contains}
use Rattle.vmv_tree.specs.declared.ends.NameEnds.{NameEnds}
use Rattle.vmv_tree.specs.Tree.{Item}
use Rattle.vmv_cert.specs.Thresholds.{IsThreshold}

-- these are the thresholds of the entry of this number, for these ends: each once, each greater than those before it
pub record AreThresholds (program : List Item) (proc : ℕ) (ends : List NameEnds) (ts : List ℤ) : Type 0 where
  pub rising : AllPairs (λ a b. a <ℤ b) ts
  pub each : (t : ℤ) → Contains ts t ↔ IsThreshold program proc ends t
