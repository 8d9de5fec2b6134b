-- The least accepted table of an entry and a box.
use Rattle.std.specs.Prelude.{◌≡◌, ◌⊎◌, ℕ, zero, suc, Option, Some, None, List, [], ◌∷◌, ◌++◌, map, slice_get, ⊤}
use Rattle.std.specs.List.{AllZip, Contains}
use Rattle.vmv_tree.specs.declared.ends.NameEnds.{NameEnds}
use Rattle.vmv_tree.specs.declared.site.NamedSite.{NamedSite}
use Rattle.vmv_tree.specs.Run.{name_of}
use Rattle.vmv_tree.specs.Tree.{Item}
use Rattle.vmv_cond.specs.Cond.{IsSubset}
use Rattle.vmv_snapshot.specs.declared.code.Code.{Code}
use Rattle.vmv_snapshot.specs.declared.code.ProcId.{ProcId}
use Rattle.vmv_snapshot.specs.View.{code_of}
use Rattle.vmv_snapshot.specs.Resolution.{Resolution, procs_of}
use Rattle.vmv_zone.specs.declared.zone.Zone.{Zone}
use Rattle.vmv_zone.specs.Zone.{IsBelow, IsNormOf}
use Rattle.vmv_assumption.specs.Assumed.{Assumed}
use Rattle.vmv_cert.specs.declared.row.Row.{Row}
use Rattle.vmv_cert.specs.declared.row.Reach.{Reach}
use Rattle.vmv_cert.specs.declared.row.Reach.TheVariants.{Bottom, Value}
use Rattle.vmv_cert.specs.Tables.{Accepted, HasThresholds, Box, IsBoxState}
use Rattle.vmv_pass.specs.Callees.{block_callees}
use Rattle.vmv_pass.specs.Source.{by_row}
use Rattle.vmv_pass.specs.Holds.{HoldsRow}
use Rattle.vmv_pass.specs.Upper.{IsProc}

-- Bottom is below all, and a condition below those that hold all of its words
abbrev pub IsReachBelow : Reach → Reach → Type 0
IsReachBelow Bottom other = ⊤
IsReachBelow (Value c) Bottom = ⊥
IsReachBelow (Value c) (Value d) = IsSubset c d

-- the row keeps lower states than the other, may return no more words, and lists no more sites
pub record IsNoMore (row other : Row) : Type 0 where
  pub keeps : AllZip IsBelow row.keeps other.keeps
  pub result : IsReachBelow row.result other.result
  pub sites : (site : NamedSite) → Contains row.unproved site → Contains other.unproved site

-- the norm of the one state is below that of the other
pub record IsNormBelow (low high : Zone) : Type 0 where
  pub under : Zone
  pub under_norm : IsNormOf low under
  pub over : Zone
  pub over_norm : IsNormOf high over
  pub below : IsBelow under over

-- no row of an accepted table of threshold states says less of the same procedure for an input above the row's
abbrev pub IsLeastRow : Resolution → ℕ → List NameEnds → Assumed → Row → Type 0
IsLeastRow program number ends assumed row =
    (rows : List Row) (other : Row) → Accepted program assumed rows → HasThresholds program number ends rows → Contains rows other
    → other.proc ≡ row.proc → IsNormBelow row.input other.input → IsNoMore row other

-- the row is one of the procedure of this number with this input
pub record IsRowFor (program : Resolution) (n : ℕ) (input : Zone) (row : Row) : Type 0 where
  pub named : slice_get (map name_of (procs_of program)) n ≡ Some row.proc
  pub input_is : row.input ≡ input

-- the row is one of the procedure of this number
abbrev pub IsFirst : Resolution → ℕ → Row → Type 0
IsFirst program n row = slice_get (map name_of (procs_of program)) n ≡ Some row.proc

-- the procedure of this number, with this input, from these rows on to those
abbrev pub Visit : Type 1
Visit = ℕ → Zone → List Row → List Row → Type 0

-- the callees are visited in order, each that is called with the arguments that it is called with
abbrev pub VisitsCalls : Visit → List ProcId → List (Option Zone) → List Row → List Row → Type 0
VisitsCalls V [] [] seen out = out ≡ seen
VisitsCalls V (callee ∷ callees) (None ∷ calls) seen out = VisitsCalls V callees calls seen out
VisitsCalls V (callee ∷ callees) (Some args ∷ calls) seen out = (next : List Row) × V callee.0 args seen next × VisitsCalls V callees calls next out
VisitsCalls V callees calls seen out = ⊥

-- A procedure is visited once for each input. Its row stands before those of the procedures that the row's own walk calls,
-- which are visited in the order of the calls. There are at most so many calls inside one another.
abbrev pub Visits : ℕ → Resolution → Assumed → List Row → Visit
Visits zero program assumed rows n input seen out = ⊥
Visits (suc depth) program assumed rows n input seen out =
    (((row : Row) × Contains seen row × IsRowFor program n input row) × (out ≡ seen))
    ⊎ (((row : Row) → Contains seen row → IsRowFor program n input row → ⊥)
    × ((row : Row) × (item : Item) × (code : Code) × (end : Zone) × (calls : List (Option Zone)) × IsRowFor program n input row
    × IsProc program n item code × HoldsRow (by_row (record { program = program; assumed = assumed; rows = rows; row = row })) item code end calls
    × VisitsCalls (Visits depth program assumed rows) (block_callees (code_of code).block) calls (seen ++ row ∷ []) out))

-- The rows are those of a visit of the entry with the norm of the box, in an accepted table of threshold states, and each is
-- least.
pub record IsLeastTable (program : Resolution) (number : ℕ) (box : Box) (ends : List NameEnds) (assumed : Assumed) (rows : List Row) : Type 0 where
  pub boxed : Zone
  pub box_is : IsBoxState box boxed
  pub input : Zone
  pub norm : IsNormOf boxed input
  pub depth : ℕ
  pub visits : Visits depth program assumed rows number input [] rows
  pub accepted : Accepted program assumed rows
  pub thresholds : HasThresholds program number ends rows
  pub least : (row : Row) → Contains rows row → IsLeastRow program number ends assumed row
