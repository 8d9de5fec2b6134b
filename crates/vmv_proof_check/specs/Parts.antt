-- How the parts of a proof turn out.
use Rattle.std.specs.Prelude.{◌≡◌, ◌⊎◌, ℕ, ◌≤◌, Some, List, ◌∷◌, ◌++◌, length, map, filter, slice_get, ⊤}
use Rattle.std.specs.List.{Contains}
use Rattle.vmv_tree.specs.declared.name.Name.{Name}
use Rattle.vmv_tree.specs.declared.tree.Param.{Param}
use Rattle.vmv_tree.specs.Tree.{entry, Body}
use Rattle.vmv_tree.specs.Run.{name_of}
use Rattle.vmv_snapshot.specs.Procs.{outsides, is_entry}
use Rattle.vmv_snapshot.specs.Resolution.{Resolution, tree_of, procs_of}
use Rattle.vmv_assumption.specs.Whole.{whole}
use Rattle.vmv_assumption.specs.Assumed.{Assumed}
use Rattle.vmv_cert.specs.declared.row.Row.{Row}
use Rattle.vmv_cert.specs.declared.row.Reach.TheVariants.{Bottom}
use Rattle.vmv_cert.specs.Tables.{Accepted, IsRefused, Box, IsBoxIn, IsRowAbove, ranges_of}
use Rattle.vmv_proof.specs.declared.proof.Exclusion.{Exclusion}
use Rattle.vmv_proof.specs.declared.proof.Shown.{Shown}
use Rattle.vmv_proof_check.specs.Cuts.{IsCutBy, IsJudgedUnder}

-- how a part turns out: it passes, or fails at this row and step
pub data Turn : Type 0 where
  passes : Turn
  fails : (row step : ℕ) → Turn

-- the entry of this name has this number and these parameters
abbrev pub IsNamedEntry : Resolution → Name → ℕ → List Param → Type 0
IsNamedEntry program name number params = (body : Body) × (slice_get (procs_of program) number ≡ Some (entry name params body))

-- some row of the entry with an input above the box is so
abbrev pub HasRow : Resolution → ℕ → Box → (Row → Type 0) → List Row → Type 0
HasRow program number box P rows = (row : Row) × Contains rows row × IsRowAbove program number box row × P row

-- a table passes where it is accepted and has a row that it needs; it fails where it is refused, or at row 0 and step 0 where it has
-- no such row
abbrev pub IsTried : Resolution → Assumed → List Row → (List Row → Type 0) → Turn → Type 0
IsTried program assumed rows Has passes = Accepted program assumed rows × Has rows
IsTried program assumed rows Has (fails row step) = IsRefused program assumed rows row step ⊎ (Accepted program assumed rows × (¬ Has rows) × (row ≡ 0) × (step ≡ 0))

-- the head of an exclusion behind these others: its entry and name are the program's, its box has a range for each parameter, none of
-- which is empty and each of which is inside the parameter's, and it counts on no more exclusions than stand before it
pub record IsHeaded (program : Resolution) (before : List Exclusion) (x : Exclusion) : Type 0 where
  pub number : ℕ
  pub params : List Param
  pub entry_is : IsNamedEntry program x.entry number params
  pub name_is : Contains (outsides (tree_of program)) x.name
  pub box_is : IsBoxIn params x.within
  pub under_is : x.under ≤ length before

-- the table of an exclusion whose entry has this number has to say that the entry doesn't return from the box
abbrev pub IsExclusionTried : Resolution → List Exclusion → Exclusion → ℕ → Turn → Type 0
IsExclusionTried base before x number turn =
    (assumed : Assumed) × IsJudgedUnder before x assumed × IsTried base assumed x.table.rows (HasRow base number x.within (λ row. row.result ≡ Bottom)) turn

-- an exclusion turns out so, behind these others; one whose head isn't right fails at row 0 and step 0
abbrev pub ExclusionTurns : Resolution → List Exclusion → Exclusion → Turn → Type 0
ExclusionTurns base before x turn =
    ((¬ IsHeaded base before x) × (turn ≡ fails 0 0)) ⊎ ((head : IsHeaded base before x) × IsExclusionTried base before x head.number turn)

-- each exclusion passes, behind those before it
abbrev pub AllPass : Resolution → List Exclusion → Type 0
AllPass base xs = (before after : List Exclusion) (x : Exclusion) → xs ≡ before ++ x ∷ after → ExclusionTurns base before x passes

-- what is shown names the entries of the program in order
abbrev pub IsShaped : Resolution → List Shown → Type 0
IsShaped revision shown = map (λ s. s.entry) shown ≡ map name_of (filter is_entry (procs_of revision))

-- a table of an entry has to have a row for its whole ranges
abbrev pub IsTableTried : Resolution → Assumed → Name → List Row → Turn → Type 0
IsTableTried revision assumed name rows turn =
    (number : ℕ) × (params : List Param) × IsNamedEntry revision name number params × IsTried revision assumed rows (HasRow revision number (ranges_of params) (λ row. ⊤)) turn

-- the plain table of an entry turns out so, whatever the outside names answer
abbrev pub PlainTurns : Resolution → Shown → Turn → Type 0
PlainTurns revision s turn = IsTableTried revision (λ name. whole) s.entry s.plain.rows turn

-- the given table of an entry turns out so, under the whole conditions cut by all exclusions
abbrev pub GivenTurns : Resolution → List Exclusion → Shown → Turn → Type 0
GivenTurns revision cuts s turn = (assumed : Assumed) × IsCutBy cuts assumed × IsTableTried revision assumed s.entry s.given.rows turn

-- both tables of the entry pass
abbrev pub IsShownWell : Resolution → List Exclusion → Shown → Type 0
IsShownWell revision cuts s = PlainTurns revision s passes × GivenTurns revision cuts s passes
