-- The thresholds of all entries of a program.
use Rattle.std.specs.Prelude.{◌≡◌, ℕ, ℤ, true, Some, Option, List, length, map, slice_get}
use Rattle.vmv_tree.specs.declared.ends.NameEnds.{NameEnds}
use Rattle.vmv_snapshot.specs.Procs.{is_entry}
use Rattle.vmv_snapshot.specs.Resolution.{Resolution, tree_of, procs_of}
use Rattle.vmv_thresholds.specs.Thresholds.{AreThresholds}

-- these are the thresholds of procedure n for these ends, where it is an entry
abbrev pub AreThresholdsAt : Resolution → List NameEnds → ℕ → Option (List ℤ) → Type 0
AreThresholdsAt program ends n found =
    slice_get (map is_entry (procs_of program)) n ≡ Some true → (ts : List ℤ) × (found ≡ Some ts) × AreThresholds (tree_of program) n ends ts

-- the thresholds of each entry, by its number
pub record HaveThresholds (program : Resolution) (ends : List NameEnds) (list : List (Option (List ℤ))) : Type 0 where
  pub count : length list ≡ length (procs_of program)
  pub each : (n : ℕ) (found : Option (List ℤ)) → slice_get list n ≡ Some found → AreThresholdsAt program ends n found
