-- The instances of procedures, one for each path of calls from an entry: how they hang together.
use Rattle.std.specs.Prelude.{◌≡◌, ℕ, ◌<◌, ◌≤◌, Some, List, [], ◌∷◌, length, slice_get, sum_by, IsFalse}
use Rattle.std.specs.List.{All}
use Rattle.vmv_tree.specs.Tree.{Item}
use Rattle.vmv_snapshot.specs.declared.code.Code.{Code}
use Rattle.vmv_snapshot.specs.declared.code.ProcId.{ProcId}
use Rattle.vmv_snapshot.specs.View.{code_of}
use Rattle.vmv_snapshot.specs.Resolution.{Resolution}
use Rattle.vmv_zone.specs.Zone.{IsBottom}
use Rattle.vmv_cond.specs.Cond.{IsEmpty}
use Rattle.vmv_pass.specs.Callees.{block_callees}
use Rattle.vmv_pass.specs.Upper.{IsProc}
use Rattle.vmv_forward.specs.Path.{Path}

-- the call of this place, of instance i, is of an instance of the procedure of this number
pub record IsCallee (paths : List Path) (i : ℕ) (caller : Path) (place proc : ℕ) : Type 0 where
  pub number : ℕ
  pub number_is : slice_get caller.callees place ≡ Some number
  pub later : i < number
  pub callee : Path
  pub there : slice_get paths number ≡ Some callee
  pub proc_is : callee.proc.0 ≡ proc
  pub caller_is : callee.caller ≡ i
  pub place_is : callee.place ≡ place

-- instance i calls an instance for each call in its procedure
pub record IsLinked (program : Resolution) (paths : List Path) (i : ℕ) (path : Path) : Type 0 where
  pub item : Item
  pub code : Code
  pub proc : IsProc program path.proc.0 item code
  pub count : length path.callees ≡ length (block_callees (code_of code).block)
  pub each : (c : ℕ) (callee : ProcId) → slice_get (block_callees (code_of code).block) c ≡ Some callee → IsCallee paths i path c callee.0

-- instance j is called by an instance before it, but none before `from`
pub record IsPlaced (paths : List Path) (from j : ℕ) (path : Path) : Type 0 where
  pub caller : Path
  pub there : slice_get paths path.caller ≡ Some caller
  pub not_before : from ≤ path.caller
  pub before : path.caller < j
  pub called : slice_get caller.callees path.place ≡ Some j

-- Instance 0 stands for the caller of the entry of this number, which calls it once. Each instance is called once, and
-- calls an instance for each call in its procedure.
pub record IsGrown (program : Resolution) (entry : ℕ) (paths : List Path) : Type 0 where
  pub outside : Path
  pub outside_is : slice_get paths 0 ≡ Some outside
  pub calls : outside.callees ≡ 1 ∷ []
  pub first : IsCallee paths 0 outside 0 entry
  pub placed : (j : ℕ) (path : Path) → 1 ≤ j → slice_get paths j ≡ Some path → IsPlaced paths 0 j path
  pub linked : (i : ℕ) (path : Path) → 1 ≤ i → slice_get paths i ≡ Some path → IsLinked program paths i path

-- nothing is known of the instance: each state is Bottom, and nothing is returned
pub record IsFresh (path : Path) : Type 0 where
  pub keeps : All IsBottom path.keeps
  pub inputs : All IsBottom path.inputs
  pub results : All IsEmpty path.results
  pub unproved : All IsFalse path.unproved

-- how many loops the instances have
abbrev pub loops_of : List Path → ℕ
loops_of paths = sum_by (λ path. length path.keeps) paths
