-- The order of the work. Private contracts alone cite these definitions.
use Rattle.std.specs.Prelude.{◌≡◌, ◌≤◌, ℕ, Some, List, map, take, slice_get}
use Rattle.std.specs.List.{AllZip}
use Rattle.vmv_tree.specs.declared.ends.NameEnds.{NameEnds}
use Rattle.vmv_tree.specs.declared.name.Name.{Name}
use Rattle.vmv_cond.specs.declared.cond.Cond.{Cond}
use Rattle.vmv_snapshot.specs.Procs.{outsides, is_entry}
use Rattle.vmv_snapshot.specs.Resolution.{Resolution, IsResolution, tree_of, procs_of}
use Rattle.vmv_assumption.specs.Whole.{whole}
use Rattle.vmv_assumption.specs.Assumed.{Assumed, names_of, cond_of}
use Rattle.vmv_need.specs.declared.cut.Cut.{Cut}
use Rattle.vmv_need.specs.Candidates.{entries_from}
use Rattle.vmv_need.specs.Thresholds.{HaveThresholds}
use Rattle.vmv_proof.specs.declared.proof.Exclusion.{Exclusion}
use Rattle.vmv_proof.specs.declared.proof.Shown.{Shown}
use Rattle.vmv_proving.specs.declared.exclusions.Excluding.{Excluding}
use Rattle.vmv_proving.specs.Exclusions.{AreRecorded, IsCutBy, IsExclusionOf}
use Rattle.vmv_proving.specs.Shown.{IsShownOf}

-- each name has the whole condition
abbrev pub IsWhole : List (Name × Cond) → Type 0
IsWhole held = (name : Name) → cond_of held name ≡ whole

-- for each entry among the first procedures there are its tables
abbrev pub AreShownBefore : Resolution → List NameEnds → Assumed → ℕ → List Shown → Type 0
AreShownBefore revision ends needed n shown = AllZip (IsShownOf revision ends needed) (entries_from 0 (take n (map is_entry (procs_of revision)))) shown

-- the exclusions were recorded of the base, and the thresholds are those of its entries
pub record IsReady (it : Excluding) : Type 0 where
  pub is_resolution : IsResolution it.base.now
  pub recorded : AreRecorded it.base.now it.ends.now it.cuts.now
  pub thresholds : HaveThresholds it.base.now it.ends.now it.thresholds.now.items

-- each outside name is held, and the whole conditions were cut by so many of the first exclusions
pub record IsFrozen (base : Resolution) (cuts : List Cut) (n : ℕ) (held : List (Name × Cond)) : Type 0 where
  pub names : names_of held ≡ outsides (tree_of base)
  pub led : IsCutBy (take n cuts) (λ name. whole) (cond_of held)

-- the first exclusions have been told, and what is frozen serves those that come
pub record AreToldBefore (base : Resolution) (ends : List NameEnds) (cuts : List Cut) (place done : ℕ) (held : List (Name × Cond)) (xs : List Exclusion) : Type 0 where
  pub told : AllZip (IsExclusionOf base ends cuts) (take place cuts) xs
  pub frozen : IsFrozen base cuts done held
  pub next : (cut : Cut) → slice_get cuts place ≡ Some cut → done ≤ cut.under
