-- Programs whose necessary conditions no environment meets.
use Rattle.std.specs.Prelude.{◌≡◌, ◌⊎◌, List, ◌∷◌, ◌++◌}
use Rattle.std.specs.List.{Contains}
use Rattle.vmv_tree.specs.declared.name.Name.{Name}
use Rattle.vmv_cond.specs.Cond.{IsEmpty}
use Rattle.vmv_snapshot.specs.declared.code.ProcId.{ProcId}
use Rattle.vmv_snapshot.specs.Procs.{outsides}
use Rattle.vmv_snapshot.specs.Resolution.{Resolution, tree_of}
use Rattle.vmv_assumption.specs.Assumed.{Assumed}
use Rattle.vmv_cert.specs.Tables.{Box, Dead}
use Rattle.vmv_forward.specs.Least.{IsLeastTable}
use Rattle.vmv_need.specs.declared.subject.Scope.{Scope}
use Rattle.vmv_need.specs.declared.shown.ShownBy.{ShownBy}
use Rattle.vmv_need.specs.declared.shown.ShownBy.TheVariants.{EmptyName, Doomed}
use Rattle.vmv_need.specs.Candidates.{places_of}

-- no word may be answered by this name
abbrev pub IsEmptyName : Assumed → Name → Type 0
IsEmptyName assumed name = IsEmpty (assumed name)

-- the entry doesn't return from the box
abbrev pub IsDoomed : Resolution → Scope → Assumed → ProcId × Box → Type 0
IsDoomed program scope assumed place = Dead program place.0.0 place.1 scope.ends assumed

-- some outside name has no answer, or some entry doesn't return from one of its boxes
abbrev pub IsVacuous : Resolution → Scope → Assumed → Type 0
IsVacuous program scope assumed =
    ((name : Name) × Contains (outsides (tree_of program)) name × IsEmptyName assumed name)
    ⊎ ((place : ProcId × Box) × Contains (places_of scope) place × IsDoomed program scope assumed place)

-- the first of these of which this holds
pub record IsFirst {A : Type 0} (P : A → Type 0) (xs : List A) (x : A) : Type 0 where
  pub before : List A
  pub after : List A
  pub parts : xs ≡ before ++ x ∷ after
  pub holds : P x
  pub none_before : (y : A) → Contains before y → ¬ P y

-- the first name without an answer; where there is none, the first entry and box that is doomed, with its least table
abbrev pub IsShownBy : Resolution → Scope → Assumed → ShownBy → Type 0
IsShownBy program scope assumed (EmptyName name) = IsFirst (IsEmptyName assumed) (outsides (tree_of program)) name
IsShownBy program scope assumed (Doomed entry within table) =
    ((name : Name) → Contains (outsides (tree_of program)) name → ¬ IsEmptyName assumed name)
    × IsFirst (IsDoomed program scope assumed) (places_of scope) (entry, within)
    × IsLeastTable program entry.0 within scope.ends assumed table.rows
