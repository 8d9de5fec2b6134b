-- Where a walk has from what it is told: from a row of a table, or from what is stored for one call path.
use Rattle.std.specs.Prelude.{◌≡◌, ℕ, ◌-◌, Bool, true, Some, List, slice_get, IsTrue}
use Rattle.vmv_cond.specs.declared.cond.Cond.{Cond}
use Rattle.vmv_snapshot.specs.declared.code.ProcId.{ProcId}
use Rattle.vmv_zone.specs.declared.zone.Zone.{Zone}
use Rattle.vmv_zone.specs.Zone.{IsBelow}
use Rattle.vmv_assumption.specs.Assumed.{Assumed}
use Rattle.vmv_cert.specs.declared.row.Row.{Row}
use Rattle.vmv_cert.specs.declared.row.Reach.{Reach}
use Rattle.vmv_cert.specs.declared.row.Reach.TheVariants.{Value}
use Rattle.vmv_cert.specs.Walk.{Walk, ListsOwn, IsMatch, IsReturned, AreAllowed}
use Rattle.vmv_cert.specs.Tables.{IsAbove}

-- what is stored for one call path: the state at each loop, the input of each call of a helper, what that call returns,
-- and which sites are unproved; each in text order
pub record Stored : Type 0 where
  pub assumed : Assumed
  pub keeps : List Zone
  pub inputs : List Zone
  pub results : List Cond
  pub unproved : List Bool

-- A row of a table, whose calls the rows of that table answer; or a call path with its input and the range of what it
-- returns, whose calls are answered by what is stored for them.
pub data Source : Type 0 where
  by_row : Walk → Source
  by_stored : Zone → Cond → Stored → Source

-- the conditions of outside names
abbrev pub assumed_in : Source → Assumed
assumed_in (by_row w) = w.assumed
assumed_in (by_stored input range stored) = stored.assumed

-- the input of the procedure
abbrev pub input_in : Source → Zone
input_in (by_row w) = w.row.input
input_in (by_stored input range stored) = input

-- the state at each loop
abbrev pub keeps_in : Source → List Zone
keeps_in (by_row w) = w.row.keeps
keeps_in (by_stored input range stored) = stored.keeps

-- what the procedure may return
abbrev pub result_in : Source → Reach
result_in (by_row w) = w.row.result
result_in (by_stored input range stored) = Value range

-- the range of what the procedure returns is told: below the row's result, or as it is stored
abbrev pub TellsRange : Source → Cond → Type 0
TellsRange (by_row w) found = IsAbove w.row.result found
TellsRange (by_stored input range stored) found = found ≡ range

-- whether the procedure's site of this number is unproved is told: the row lists it where it is, or it is stored
abbrev pub TellsSite : Source → ℕ → Bool → Type 0
TellsSite (by_row w) number flag = IsTrue flag → ListsOwn w.row number
TellsSite (by_stored input range stored) number flag = slice_get stored.unproved (number - 1) ≡ Some flag

-- the procedure's site of this number is told to be unproved
abbrev pub TellsUnproved : Source → ℕ → Type 0
TellsUnproved (by_row w) number = ListsOwn w.row number
TellsUnproved (by_stored input range stored) number = slice_get stored.unproved (number - 1) ≡ Some true

-- The c-th call, of this helper with these arguments, is answered by this condition: some row matches, the words are those
-- that all matching rows return, and the sites that these list are listed; or the arguments are below the input that is
-- stored, and so is the condition.
abbrev pub Answers : Source → ℕ → ProcId → Zone → Cond → Type 0
Answers (by_row w) c callee args cond = ((row : Row) × IsMatch w callee.0 args row) × IsReturned w callee.0 args cond × AreAllowed w callee.0 args
Answers (by_stored input range stored) c callee args cond = (given : Zone) × (slice_get stored.inputs c ≡ Some given) × IsBelow args given × (slice_get stored.results c ≡ Some cond)
