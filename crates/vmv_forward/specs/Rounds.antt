-- Visits of the instances, which raise what is stored for them.
use Rattle.std.specs.Prelude.{◌≡◌, ℕ, ◌+◌, ◌<◌, ◌≤◌, ℤ, Bool, Option, Some, List, [], ◌∷◌, length, slice_get, slice_set, sum_by, IsTrue, IsFalse}
use Rattle.std.specs.List.{All, Contains}
use Rattle.vmv_tree.specs.Tree.{Item}
use Rattle.vmv_cond.specs.declared.cond.Cond.{Cond}
use Rattle.vmv_snapshot.specs.declared.code.Code.{Code}
use Rattle.vmv_snapshot.specs.Resolution.{Resolution, IsResolution}
use Rattle.vmv_zone.specs.declared.zone.Zone.{Zone}
use Rattle.vmv_zone.specs.Zone.{vars_of, IsBelow, IsNormOf, IsNormal}
use Rattle.vmv_zone.specs.Round.{IsThresholdState}
use Rattle.vmv_assumption.specs.Assumed.{Assumed, cond_of}
use Rattle.vmv_cert.specs.declared.row.Row.{Row}
use Rattle.vmv_cert.specs.Walk.{Walk}
use Rattle.vmv_cert.specs.Tables.{IsFormed, IsAbove, Accepted}
use Rattle.vmv_check.specs.Walker.{HasParams}
use Rattle.vmv_pass.specs.Source.{Stored, Source, by_row, by_stored, result_in}
use Rattle.vmv_pass.specs.Holds.{HoldsRow, Settles}
use Rattle.vmv_pass.specs.Room.{rooms, ranks}
use Rattle.vmv_pass.specs.Upper.{IsProc, AreScale, Fits, AreBelow, IsUnder, IsUpper}
use Rattle.vmv_forward.specs.Path.{Path}
use Rattle.vmv_forward.specs.Paths.{IsGrown}
use Rattle.vmv_forward.specs.Waiting.{AreRoom}
use Rattle.vmv_links.specs.Lists.{Lists, IsListed}
use Rattle.vmv_forward.specs.declared.rounds.Search.{Search}

-- what is searched for: the program, the entry's number and its input, under what is assumed, over the thresholds
pub record Quest : Type 0 where
  pub program : Resolution
  pub entry : ℕ
  pub input : Zone
  pub assumed : Assumed
  pub thresholds : List ℤ

abbrev pub quest_of : Search → Quest
quest_of at = record { program = at.snapshot.now; entry = at.entry.0; input = at.input.now; assumed = cond_of at.assumed.now; thresholds = at.thresholds.now }

abbrev pub stored_of : Assumed → Path → Stored
stored_of assumed path = record { assumed = assumed; keeps = path.keeps; inputs = path.inputs; results = path.results; unproved = path.unproved }

abbrev pub walk_of : Quest → List Row → Row → Walk
walk_of q rows row = record { program = q.program; assumed = q.assumed; rows = rows; row = row }

-- the input that is stored for the instance, with its caller
abbrev pub HasInput : List Path → Path → Zone → Type 0
HasInput paths path input = (caller : Path) × (slice_get paths path.caller ≡ Some caller) × (slice_get caller.inputs path.place ≡ Some input)

-- the result that is stored for the instance, with its caller
abbrev pub HasResult : List Path → Path → Cond → Type 0
HasResult paths path result = (caller : Path) × (slice_get paths path.caller ≡ Some caller) × (slice_get caller.results path.place ≡ Some result)

-- The entry's input is normal and over its parameters. What is stored for each instance has a state for each loop, an input
-- and a result for each call, and a flag for each site.
pub record AreFit (q : Quest) (paths : List Path) : Type 0 where
  pub entry : HasParams q.program q.entry (vars_of q.input)
  pub normal : IsNormal q.input
  pub outside : (path : Path) → slice_get paths 0 ≡ Some path → (path.inputs ≡ q.input ∷ []) × (length path.results ≡ 1)
  pub each : (i : ℕ) (path : Path) (item : Item) (code : Code) → 1 ≤ i → slice_get paths i ≡ Some path → IsProc q.program path.proc.0 item code
      → Fits q.program q.thresholds item code (stored_of q.assumed path)

-- the walk of instance j holds over what is stored, and ends in the result that is stored for it
abbrev pub IsSettled : Quest → List Path → ℕ → Type 0
IsSettled q paths j =
    (path : Path) (input : Zone) (result : Cond) (item : Item) (code : Code) → slice_get paths j ≡ Some path → HasInput paths path input
    → HasResult paths path result → IsProc q.program path.proc.0 item code → Settles (stored_of q.assumed path) item code input result

-- an accepted table of threshold states
pub record AreAccepted (q : Quest) (rows : List Row) : Type 0 where
  pub accepted : Accepted q.program q.assumed rows
  pub thresholds : (row : Row) → Contains rows row → All (IsThresholdState q.thresholds) row.keeps

-- instances of the entry whose walks hold
pub record AreSettled (q : Quest) (paths : List Path) : Type 0 where
  pub grown : IsGrown q.program q.entry paths
  pub fit : AreFit q paths
  pub settled : (j : ℕ) → 1 ≤ j → IsSettled q paths j

-- what instances are compared with: the rows of a table, or instances
pub data Rival : Type 0 where
  of_table : List Row → Rival
  of_paths : List Path → Rival

-- a table is accepted, and instances are settled
abbrev pub IsRival : Quest → Rival → Type 0
IsRival q (of_table rows) = AreAccepted q rows
IsRival q (of_paths paths) = AreSettled q paths

-- a row of the procedure of this number, with this input
pub record IsRowAt (q : Quest) (rows : List Row) (n : ℕ) (top : Zone) (row : Row) : Type 0 where
  pub among : Contains rows row
  pub item : Item
  pub code : Code
  pub formed : IsFormed q.program row n item code
  pub input : row.input ≡ top

-- an instance of the procedure of this number, with this input and this range of what it returns
pub record IsPathAt (paths : List Path) (n : ℕ) (top : Zone) (range : Cond) (path : Path) : Type 0 where
  pub number : ℕ
  pub one : 1 ≤ number
  pub at : slice_get paths number ≡ Some path
  pub proc : path.proc.0 ≡ n
  pub input : HasInput paths path top
  pub result : HasResult paths path range

-- the source is a row or an instance of the rival's, of the procedure of this number and with this input
abbrev pub IsOf : Quest → Rival → ℕ → Zone → Source → Type 0
IsOf q (of_table rows) n top source = (row : Row) × IsRowAt q rows n top row × (source ≡ by_row (walk_of q rows row))
IsOf q (of_paths paths) n top source = (range : Cond) × (path : Path) × IsPathAt paths n top range path × (source ≡ by_stored top range (stored_of q.assumed path))

-- What is stored for an instance is below each walk of its procedure that holds, by a row or an instance of the rival's whose
-- input is above the instance's.
abbrev pub AreLow : Quest → List Path → Rival → Type 0
AreLow q paths rival =
    (j : ℕ) (path : Path) (input top end : Zone) (result : Cond) (item : Item) (code : Code) (source : Source) (calls : List (Option Zone))
    → 1 ≤ j → slice_get paths j ≡ Some path → HasInput paths path input → HasResult paths path result
    → IsProc q.program path.proc.0 item code → IsOf q rival path.proc.0 top source → IsBelow input top → HoldsRow source item code end calls
    → IsUnder source calls (stored_of q.assumed path) × IsAbove (result_in source) result

-- what holds between the visits of instances: what is stored fits, and is below every accepted table of threshold states and
-- all that settled instances store
pub record AreKept (q : Quest) (paths : List Path) : Type 0 where
  pub resolution : IsResolution q.program
  pub scale : AreScale q.thresholds
  pub grown : IsGrown q.program q.entry paths
  pub fit : AreFit q paths
  pub low : (rival : Rival) → IsRival q rival → AreLow q paths rival

-- each state at a loop is over at most 16 variables
abbrev pub HaveFew : List Path → Type 0
HaveFew paths = (i : ℕ) (path : Path) → slice_get paths i ≡ Some path → All (λ z. vars_of z ≤ 16) path.keeps

abbrev pub all_rooms : List Path → ℕ
all_rooms paths = sum_by (λ path. rooms path.keeps + rooms path.inputs) paths

abbrev pub all_ranks : List ℤ → List Path → ℕ
all_ranks ts paths = sum_by (λ path. ranks ts path.keeps) paths

-- only what is stored at the loops, for the inputs of calls and for the sites may differ
pub record IsSameShape (old new : Path) : Type 0 where
  pub proc : new.proc ≡ old.proc
  pub caller : new.caller ≡ old.caller
  pub place : new.place ≡ old.place
  pub callees : new.callees ≡ old.callees
  pub results : new.results ≡ old.results

-- one pass over an instance's procedure, from its input
pub record IsPassed (q : Quest) (input : Zone) (old new : Path) (range : Cond) (raised : Bool) (steps steps' : ℕ) : Type 0 where
  pub shape : IsSameShape old new
  pub keeps_stay : IsFalse raised → new.keeps ≡ old.keeps
  pub inputs_stay : IsFalse raised → new.inputs ≡ old.inputs
  pub fits : (item : Item) (code : Code) → IsProc q.program old.proc.0 item code → Fits q.program q.thresholds item code (stored_of q.assumed new)
  pub keeps_rise : AreBelow old.keeps new.keeps
  pub inputs_rise : AreBelow old.inputs new.inputs
  pub falls : IsTrue raised → rooms new.keeps + rooms new.inputs < rooms old.keeps + rooms old.inputs
  pub under : (source : Source) (item : Item) (code : Code) (end : Zone) (calls : List (Option Zone))
      → IsUpper q.program old.proc.0 q.thresholds input (stored_of q.assumed old) source item code end calls
      → IsUnder source calls (stored_of q.assumed old) → IsUnder source calls (stored_of q.assumed new) × IsAbove (result_in source) range
  pub cost : steps' + ranks q.thresholds old.keeps ≤ steps + ranks q.thresholds new.keeps

-- a visit of instance j: a pass over it from its input, and the range goes to its caller
pub record IsVisited (q : Quest) (paths : List Path) (j : ℕ) (raised : Bool) (steps : ℕ) (paths' : List Path) (steps' : ℕ) : Type 0 where
  pub old : Path
  pub old_is : slice_get paths j ≡ Some old
  pub caller : Path
  pub caller_is : slice_get paths old.caller ≡ Some caller
  pub input : Zone
  pub input_is : slice_get caller.inputs old.place ≡ Some input
  pub new : Path
  pub range : Cond
  pub passed : IsPassed q input old new range raised steps steps'
  pub changed : paths' ≡ slice_set (slice_set paths j new) old.caller (record caller { results = slice_set caller.results old.place range })

-- each instance that isn't in a list is settled
pub record AreWaiting (q : Quest) (paths : List Path) (waiting : Lists) : Type 0 where
  pub size : waiting.size ≡ length paths
  pub room : AreRoom waiting
  pub from : (k : ℕ) → IsListed waiting.lists k → 1 ≤ k
  pub others : (k : ℕ) → 1 ≤ k → (IsListed waiting.lists k → ⊥) → IsSettled q paths k

-- each instance that isn't in a list is settled, but for instance j, which was taken out to be visited
pub record AreWaitingBut (q : Quest) (paths : List Path) (waiting : Lists) (j : ℕ) : Type 0 where
  pub size : waiting.size ≡ length paths
  pub room : AreRoom waiting
  pub from : (k : ℕ) → IsListed waiting.lists k → 1 ≤ k
  pub others : (k : ℕ) → 1 ≤ k → (k ≡ j → ⊥) → (IsListed waiting.lists k → ⊥) → IsSettled q paths k
