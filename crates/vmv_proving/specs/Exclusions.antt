-- The exclusions of a proof: those that were recorded of a base, each with the table that shows it.
use Rattle.std.specs.Prelude.{◌≡◌, Some, List, [], ◌∷◌, map, take, slice_get}
use Rattle.std.specs.List.{AllZip}
use Rattle.vmv_tree.specs.declared.ends.NameEnds.{NameEnds}
use Rattle.vmv_tree.specs.Run.{name_of}
use Rattle.vmv_snapshot.specs.Resolution.{Resolution, procs_of}
use Rattle.vmv_assumption.specs.Whole.{whole}
use Rattle.vmv_assumption.specs.Assumed.{Assumed}
use Rattle.vmv_assumption.specs.Change.{IsKept, IsCut}
use Rattle.vmv_forward.specs.Least.{IsLeastTable}
use Rattle.vmv_need.specs.declared.subject.Scope.{Scope}
use Rattle.vmv_need.specs.declared.cut.Cut.{Cut}
use Rattle.vmv_need.specs.Candidates.{IsScopeOf}
use Rattle.vmv_need.specs.Rounds.{HasCuts}
use Rattle.vmv_proof.specs.declared.proof.Exclusion.{Exclusion}

-- the ends of the base's outside names, and the exclusions that its rounds record
pub record AreRecorded (base : Resolution) (ends : List NameEnds) (cuts : List Cut) : Type 0 where
  pub scope : Scope
  pub scope_is : IsScopeOf base scope
  pub ends_are : scope.ends ≡ ends
  pub last : Assumed
  pub recorded : HasCuts base scope last cuts

-- cut by these exclusions, in order, the first assumption becomes the last
abbrev pub IsCutBy : List Cut → Assumed → Assumed → Type 0
IsCutBy [] first last = last ≡ first
IsCutBy (cut ∷ cuts) first last = (next : Assumed) × IsCut first cut.name cut.piece next × IsCutBy cuts next last

-- what an exclusion is judged under: the whole conditions, cut by as many of the first exclusions as it says, with the
-- condition of its name kept to its piece
pub record IsJudgedUnder (cuts : List Cut) (cut : Cut) (assumed : Assumed) : Type 0 where
  pub frozen : Assumed
  pub frozen_is : IsCutBy (take cut.under cuts) (λ name. whole) frozen
  pub kept : IsKept frozen cut.name cut.piece assumed

-- it tells of this one among the recorded exclusions, with the least table of its entry and box
pub record IsExclusionOf (base : Resolution) (ends : List NameEnds) (cuts : List Cut) (cut : Cut) (x : Exclusion) : Type 0 where
  pub entry : slice_get (map name_of (procs_of base)) cut.entry.0 ≡ Some x.entry
  pub within : x.within ≡ cut.within
  pub name : x.name ≡ cut.name
  pub piece : x.piece ≡ cut.piece
  pub under : x.under ≡ cut.under
  pub assumed : Assumed
  pub judged : IsJudgedUnder cuts cut assumed
  pub least : IsLeastTable base cut.entry.0 cut.within ends assumed x.table.rows

-- one for each recorded exclusion, in order
abbrev pub AreExclusions : Resolution → List NameEnds → List Cut → List Exclusion → Type 0
AreExclusions base ends cuts xs = AllZip (IsExclusionOf base ends cuts) cuts xs
