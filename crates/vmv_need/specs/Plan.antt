-- The order of the work, and what single steps of it do. Private contracts alone cite these definitions.
use Rattle.std.specs.Prelude.{◌≡◌, ◌↔◌, ◌^◌, ◌<◌, ◌≤◌, ℕ, Bool, IsTrue, true, false, Option, Some, None, List, length, map, take, slice_get}
use Rattle.std.specs.List.{Contains}
use Rattle.vmv_tree.specs.declared.name.Name.{Name}
use Rattle.vmv_tree.specs.declared.tree.Param.{Param}
use Rattle.vmv_cond.specs.declared.cond.Cond.{Cond}
use Rattle.vmv_snapshot.specs.Procs.{outsides, is_entry}
use Rattle.vmv_snapshot.specs.Resolution.{Resolution, IsResolution, tree_of, procs_of}
use Rattle.vmv_assumption.specs.Assumed.{Assumed, names_of}
use Rattle.vmv_cert.specs.Tables.{Box, IsEntry, IsBoxIn}
use Rattle.vmv_back.specs.Boxes.{AreBoxes}
use Rattle.vmv_demands.specs.Demands.{AreDemands}
use Rattle.vmv_forward.specs.Least.{IsLeastTable}
use Rattle.vmv_need.specs.declared.subject.Subject.{Subject}
use Rattle.vmv_need.specs.declared.subject.Scope.{Scope}
use Rattle.vmv_need.specs.declared.cut.Cut.{Cut}
use Rattle.vmv_need.specs.declared.plan.Plan.{Plan}
use Rattle.vmv_need.specs.declared.shown.ShownBy.{ShownBy}
use Rattle.vmv_need.specs.declared.shown.ShownBy.TheVariants.{EmptyName, Doomed}
use Rattle.vmv_need.specs.Candidates.{entries_from, IsScopeOf, candidates_of, places_of}
use Rattle.vmv_need.specs.Thresholds.{HaveThresholds}
use Rattle.vmv_need.specs.Vacuous.{IsDoomed, IsFirst}

-- those of the entries among the first n procedures
pub record AreFirst (program : Resolution) (n : ℕ) (subjects : List Subject) : Type 0 where
  pub entries : map (λ (s : Subject). s.entry.0) subjects ≡ entries_from 0 (take n (map is_entry (procs_of program)))
  pub boxes : (s : Subject) → Contains subjects s → AreBoxes program s.entry.0 s.boxes
  pub demands : (s : Subject) → Contains subjects s → AreDemands program s.entry.0 s.demands

-- the procedure of number n is a helper, where there is none, or the entry with this
abbrev pub IsFoundAt : Resolution → ℕ → Option Subject → Type 0
IsFoundAt program n None = slice_get (map is_entry (procs_of program)) n ≡ Some false
IsFoundAt program n (Some s) = (slice_get (map is_entry (procs_of program)) n ≡ Some true) × (s.entry.0 ≡ n) × AreBoxes program n s.boxes × AreDemands program n s.demands

-- the procedure is an entry, and the box lies in its parameters' ranges
abbrev pub IsEntryWithin : Resolution → ℕ → Box → Type 0
IsEntryWithin program n box = (params : List Param) × IsEntry program n params × IsBoxIn params box

-- the lists of the plan are those of what is looked at in the program
pub record IsPlanOf (program : Resolution) (plan : Plan) : Type 0 where
  pub is_resolution : IsResolution program
  pub scope : IsScopeOf program plan.scope
  pub candidates : plan.candidates.items ≡ candidates_of plan.scope
  pub few : length plan.candidates.items < 2 ^ 32
  pub places : plan.places.items ≡ places_of plan.scope
  pub thresholds : HaveThresholds program plan.scope.ends plan.thresholds.items

-- the names that are held are the program's outside names
pub record IsReady (program : Resolution) (plan : Plan) (held : List (Name × Cond)) : Type 0 where
  pub planned : IsPlanOf program plan
  pub names : names_of held ≡ outsides (tree_of program)

-- whether this holds of the one at this place
abbrev pub IsJudged : {A : Type 0} → (P : A → Type 0) → List A → ℕ → Bool → Type 0
IsJudged {A = A} P xs place answer = (x : A) → slice_get xs place ≡ Some x → IsTrue answer ↔ P x

-- whether this holds of each of them
pub record AreJudged {A : Type 0} (P : A → Type 0) (xs : List A) (answers : List Bool) : Type 0 where
  pub count : length answers ≡ length xs
  pub each : (place : ℕ) (answer : Bool) → slice_get answers place ≡ Some answer → IsJudged P xs place answer

-- no more exclusions are recorded than there are candidates
abbrev pub HasRoom : Plan → List Cut → Type 0
HasRoom plan cuts = length cuts ≤ length plan.candidates.items

-- the first entry and box from which it doesn't return, with its least table
abbrev pub IsFirstDoomed : Resolution → Scope → Assumed → ShownBy → Type 0
IsFirstDoomed program scope assumed (EmptyName name) = ⊥
IsFirstDoomed program scope assumed (Doomed entry within table) =
    IsFirst (IsDoomed program scope assumed) (places_of scope) (entry, within) × IsLeastTable program entry.0 within scope.ends assumed table.rows
