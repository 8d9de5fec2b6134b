-- Instances as they are made: each procedure's calls lead to instances of their own, of which nothing is known.
use Rattle.std.specs.Prelude.{◌≡◌, ℕ, ◌<◌, ◌≤◌, ℤ, Some, List, [], ◌∷◌, ◌++◌, length, slice_get}
use Rattle.std.specs.List.{All, AllZip}
use Rattle.vmv_tree.specs.Tree.{Item}
use Rattle.vmv_cond.specs.Cond.{IsEmpty}
use Rattle.vmv_snapshot.specs.declared.code.Code.{Code}
use Rattle.vmv_snapshot.specs.declared.code.ProcId.{ProcId}
use Rattle.vmv_snapshot.specs.Resolution.{Resolution}
use Rattle.vmv_zone.specs.declared.zone.Zone.{Zone}
use Rattle.vmv_zone.specs.Zone.{vars_of, IsBottom}
use Rattle.vmv_assumption.specs.Assumed.{Assumed}
use Rattle.vmv_check.specs.Walker.{HasParams}
use Rattle.vmv_pass.specs.Upper.{IsProc, Fits}
use Rattle.vmv_forward.specs.Path.{Path}
use Rattle.vmv_forward.specs.Paths.{IsLinked, IsPlaced, IsFresh, loops_of}
use Rattle.vmv_forward.specs.Rounds.{stored_of}
use Rattle.vmv_forward.specs.Instances.{instances}

-- each is the number of a procedure of the program with at most 16 parameters
abbrev pub AreProcs : Resolution → List ProcId → Type 0
AreProcs program callees = All (λ (callee : ProcId). (count : ℕ) × HasParams program callee.0 count × (count ≤ 16)) callees

-- Bottom over the parameters of each
abbrev pub AreInputs : Resolution → List ProcId → List Zone → Type 0
AreInputs program callees inputs = AllZip (λ (callee : ProcId) z. HasParams program callee.0 (vars_of z) × IsBottom z) callees inputs

-- an instance of the procedure of this number, called from this place of the caller, of which nothing is known
pub record IsNew (program : Resolution) (proc : ProcId) (caller place : ℕ) (path : Path) : Type 0 where
  pub proc_is : path.proc ≡ proc
  pub caller_is : path.caller ≡ caller
  pub place_is : path.place ≡ place
  pub callees : path.callees ≡ []
  pub fresh : IsFresh path
  pub fits : (assumed : Assumed) (ts : List ℤ) (item : Item) (code : Code) → IsProc program proc.0 item code → Fits program ts item code (stored_of assumed path)

-- the caller of an entry with this input
pub record IsOutside (input : Zone) (path : Path) : Type 0 where
  pub callees : path.callees ≡ 1 ∷ []
  pub keeps : path.keeps ≡ []
  pub inputs : path.inputs ≡ input ∷ []
  pub results : length path.results ≡ 1
  pub empty : All IsEmpty path.results

-- An instance of the procedure of this number was added for the call of this place of the caller, and behind it instances
-- of all that it calls.
pub record IsGrownBy (program : Resolution) (n caller place : ℕ) (old new : List Path) : Type 0 where
  pub more : List Path
  pub is : new ≡ old ++ more
  pub first : Path
  pub first_is : slice_get new (length old) ≡ Some first
  pub proc_is : first.proc.0 ≡ n
  pub caller_is : first.caller ≡ caller
  pub place_is : first.place ≡ place
  pub placed : (j : ℕ) (path : Path) → length old < j → slice_get new j ≡ Some path → IsPlaced new (length old) j path
  pub linked : (i : ℕ) (path : Path) → length old ≤ i → slice_get new i ≡ Some path → IsLinked program new i path
  pub fresh : (i : ℕ) (path : Path) → length old ≤ i → slice_get new i ≡ Some path → IsFresh path
  pub fits : (i : ℕ) (path : Path) (assumed : Assumed) (ts : List ℤ) (item : Item) (code : Code) → length old ≤ i → slice_get new i ≡ Some path
      → IsProc program path.proc.0 item code → Fits program ts item code (stored_of assumed path)
  pub loops : loops_of more ≡ instances program.codes n

-- the instances of the entry of this number with this input, of which nothing is known
pub record IsStart (program : Resolution) (entry : ℕ) (input : Zone) (paths : List Path) : Type 0 where
  pub outside : Path
  pub is_outside : IsOutside input outside
  pub grown : IsGrownBy program entry 0 0 (outside ∷ []) paths
