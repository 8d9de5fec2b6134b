-- What a pass takes, and the rows of accepted tables that are above what it stores.
use Rattle.std.specs.Prelude.{◌≡◌, ℕ, ◌+◌, ◌-◌, ◌^◌, ℤ, pos, true, Option, Some, None, List, length, slice_get}
use Rattle.std.specs.List.{All, AllZip, Contains}
use Rattle.vmv_tree.specs.Tree.{Item}
use Rattle.vmv_cond.specs.declared.cond.Cond.{Cond}
use Rattle.vmv_cond.specs.Cond.{IsSubset}
use Rattle.vmv_snapshot.specs.declared.code.ProcId.{ProcId}
use Rattle.vmv_snapshot.specs.declared.code.Code.{Code}
use Rattle.vmv_snapshot.specs.View.{code_of}
use Rattle.vmv_snapshot.specs.Procs.{params_of}
use Rattle.vmv_snapshot.specs.Resolution.{Resolution, procs_of}
use Rattle.vmv_snapshot.specs.Tables.{body_sites}
use Rattle.vmv_zone.specs.declared.zone.Zone.{Zone}
use Rattle.vmv_zone.specs.Zone.{vars_of, IsBottom, IsBelow, IsNormal}
use Rattle.vmv_zone.specs.Round.{AreSorted, IsThresholdState}
use Rattle.vmv_assumption.specs.Within.{IsBelow as IsLess}
use Rattle.vmv_cert.specs.Sizes.{block_loops}
use Rattle.vmv_check.specs.Walker.{HasParams}
use Rattle.vmv_pass.specs.Callees.{block_callees}
use Rattle.vmv_pass.specs.Holds.{HoldsRow}
use Rattle.vmv_pass.specs.Source.{Stored, Source, assumed_in, input_in, keeps_in, TellsUnproved, Answers}

-- the procedure of this number, and its code
pub record IsProc (program : Resolution) (n : ℕ) (item : Item) (code : Code) : Type 0 where
  pub place : slice_get (procs_of program) n ≡ Some item
  pub code_is : slice_get program.codes n ≡ Some code

-- thresholds in order, with 0 and the bounds that words keep
pub record AreScale (ts : List ℤ) : Type 0 where
  pub sorted : AreSorted ts
  pub zero : Contains ts (pos 0)
  pub greatest_word : Contains ts (pos (2 ^ 63 - 1))
  pub least_word : Contains ts (pos (2 ^ 63))
  pub most : Contains ts (pos (2 ^ 64 - 1))

-- what is stored has a threshold state for each loop of the procedure, a normal state over the callee's parameters and a
-- result for each call of a helper, and a place for each site
pub record Fits (program : Resolution) (ts : List ℤ) (item : Item) (code : Code) (stored : Stored) : Type 0 where
  pub keeps : length stored.keeps ≡ block_loops (code_of code).block
  pub over : All (λ z. vars_of z ≡ code.vars) stored.keeps
  pub thresholds : All (IsThresholdState ts) stored.keeps
  pub inputs : AllZip (λ (callee : ProcId) z. HasParams program callee.0 (vars_of z) × IsNormal z) (block_callees (code_of code).block) stored.inputs
  pub results : length stored.results ≡ length (block_callees (code_of code).block)
  pub unproved : length stored.unproved ≡ body_sites item

-- each state is below the other of its place, over the same variables
abbrev pub AreBelow : List Zone → List Zone → Type 0
AreBelow xs ys = AllZip (λ x y. (vars_of y ≡ vars_of x) × IsBelow x y) xs ys

-- an input that is below the arguments of a call; Bottom where that isn't reached
abbrev pub IsBelowCall : Zone → Option Zone → Type 0
IsBelowCall input None = IsBottom input
IsBelowCall input (Some args) = IsBelow input args

-- what is stored is below a walk with these calls: the states at loops, the inputs, and the sites that are unproved
pub record IsUnder (source : Source) (calls : List (Option Zone)) (stored : Stored) : Type 0 where
  pub keeps : AllZip IsBelow stored.keeps (keeps_in source)
  pub inputs : AllZip IsBelowCall stored.inputs calls
  pub unproved : (i : ℕ) → slice_get stored.unproved i ≡ Some true → TellsUnproved source (i + 1)

-- each result that is stored for a call is below the answer to that call
abbrev pub AreResultsUnder : Source → List ProcId → List (Option Zone) → List Cond → Type 0
AreResultsUnder source callees calls results =
    (c : ℕ) (callee : ProcId) (args : Zone) (result cond : Cond) → slice_get callees c ≡ Some callee → slice_get calls c ≡ Some (Some args)
    → slice_get results c ≡ Some result → Answers source c callee args cond → IsSubset result cond

-- A walk of the procedure that holds, over threshold states at its loops and from an input above this one, under conditions
-- that hold no fewer words. Its calls are answered by no fewer words than are stored.
pub record IsUpper (program : Resolution) (n : ℕ) (ts : List ℤ) (input : Zone) (stored : Stored) (source : Source) (item : Item) (code : Code) (e : Zone) (calls : List (Option Zone)) : Type 0 where
  pub proc : IsProc program n item code
  pub assumed : IsLess stored.assumed (assumed_in source)
  pub params : vars_of (input_in source) ≡ length (params_of item)
  pub over : All (λ z. vars_of z ≡ code.vars) (keeps_in source)
  pub thresholds : All (IsThresholdState ts) (keeps_in source)
  pub above : IsBelow input (input_in source)
  pub holds : HoldsRow source item code e calls
  pub results : AreResultsUnder source (block_callees (code_of code).block) calls stored.results
