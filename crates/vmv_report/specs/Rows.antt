-- The rows of a review: each site that an entry of the revision reaches, and its class.
use Rattle.std.specs.Prelude.{◌≡◌, ◌≢◌, ◌⊎◌, ℕ, ◌<◌, ◌≤◌, ◌==◌, Bool, true, false, ◌&&◌, Option, Some, None, List, [], ◌∷◌, ◌++◌, map, count_by, filter, slice_get, unwrap_or, if◌then◌else◌, ⊤}
use Rattle.std.specs.List.{AllPairs, AllZip, Contains}
use Rattle.vmv_tree.specs.declared.name.Name.{Name}
use Rattle.vmv_tree.specs.declared.ends.NameEnds.{NameEnds}
use Rattle.vmv_tree.specs.declared.site.NamedSite.{NamedSite}
use Rattle.vmv_tree.specs.declared.tree.Param.{Param}
use Rattle.vmv_tree.specs.Tree.{Item}
use Rattle.vmv_tree.specs.Run.{name_of}
use Rattle.vmv_snapshot.specs.declared.code.SiteId.{SiteId}
use Rattle.vmv_snapshot.specs.Reaches.{Reaches}
use Rattle.vmv_snapshot.specs.Resolution.{Resolution, tree_of, procs_of}
use Rattle.vmv_snapshot.specs.Tables.{body_sites}
use Rattle.vmv_cond.specs.declared.cond.Cond.{Cond}
use Rattle.vmv_assumption.specs.Whole.{whole}
use Rattle.vmv_assumption.specs.Assumed.{Assumed, cond_of}
use Rattle.vmv_cert.specs.Tables.{IsEntry, Provable}
use Rattle.vmv_witness.specs.declared.witness.Witness.{Witness}
use Rattle.vmv_enough.specs.Failures.{IsCounterexample}
use Rattle.vmv_enough.specs.Found.{AreFound}
use Rattle.vmv_report.specs.declared.row.ReportRow.{ReportRow}
use Rattle.vmv_report.specs.declared.class.Class.{Class}
use Rattle.vmv_report.specs.declared.class.Class.TheVariants.{Clean, Hidden, Regression, Alarm}

-- the name of the procedure of this number; it is empty where there is no such procedure
abbrev pub proc_name : Resolution → ℕ → Name
proc_name program n = unwrap_or (slice_get (map name_of (procs_of program)) n) []

-- the site with its procedure's name, as tables list it
abbrev pub named_site : Resolution → SiteId → NamedSite
named_site program site = record { proc = proc_name program site.proc.0; index = site.index }

-- the numbers of an entry, of a procedure and of a site in it
pub record Place : Type 0 where
  pub entry : ℕ
  pub proc : ℕ
  pub index : ℕ

abbrev pub place_of : ReportRow → Place
place_of row = record { entry = row.entry.0; proc = row.site.proc.0; index = row.site.index }

-- it is the place of a row: the entry reaches the procedure, which it may be itself, and that has the site
pub record IsPlace (program : Resolution) (place : Place) : Type 0 where
  pub params : List Param
  pub entry : IsEntry program place.entry params
  pub item : Item
  pub proc : slice_get (procs_of program) place.proc ≡ Some item
  pub reached : Reaches (tree_of program) place.entry place.proc
  pub from : 1 ≤ place.index
  pub to : place.index ≤ body_sites item

-- by procedure in text order, then by number
abbrev pub IsSiteBefore : Place → Place → Type 0
IsSiteBefore a b = (a.proc < b.proc) ⊎ ((a.proc ≡ b.proc) × (a.index < b.index))

-- by entry in text order, then by site
abbrev pub IsBefore : Place → Place → Type 0
IsBefore a b = (a.entry < b.entry) ⊎ ((a.entry ≡ b.entry) × IsSiteBefore a b)

-- it is this class
abbrev pub is_class : Class → Class → Bool
is_class Clean Clean = true
is_class Hidden Hidden = true
is_class Regression Regression = true
is_class Alarm Alarm = true
is_class one other = false

-- a revision, and what it is reviewed with: the ends of the base's outside names, what is necessary of their answers, and
-- what suffices, where there is something
pub record Review : Type 0 where
  pub revision : Resolution
  pub ends : List NameEnds
  pub needed : Assumed
  pub enough : Option (List (Name × Cond))

-- under this assumption a table shows that the entry doesn't fail at the row's site
abbrev pub IsProvable : Review → Assumed → ReportRow → Type 0
IsProvable review assumed row = Provable review.revision row.entry.0 review.ends assumed (named_site review.revision row.site)

-- whatever the outside names answer
abbrev pub IsAlwaysProvable : Review → ReportRow → Type 0
IsAlwaysProvable review row = IsProvable review (λ name. whole) row

-- where the answers meet what is necessary for the base
abbrev pub IsRelativelyProvable : Review → ReportRow → Type 0
IsRelativelyProvable review row = IsProvable review review.needed row

-- how many of these rows are regressions of the entry of this number
abbrev pub regression_count : ℕ → List ReportRow → ℕ
regression_count n rows = count_by (λ row. (row.entry.0 == n) && is_class Regression row.class) rows

-- under these conditions the probes of the row's entry find this run, which fails at the row's site
pub record IsFoundAt (revision : Resolution) (enough : Assumed) (row : ReportRow) (w : Witness) : Type 0 where
  pub found : List Witness
  pub found_are : AreFound revision row.entry.0 enough found
  pub there : Contains found w
  pub site : w.site ≡ named_site revision row.site
  pub runs : IsCounterexample revision row.entry.0 enough w

-- they find none that fails there
pub record IsNotFound (revision : Resolution) (enough : Assumed) (row : ReportRow) : Type 0 where
  pub found : List Witness
  pub found_are : AreFound revision row.entry.0 enough found
  pub none : (w : Witness) → Contains found w → w.site ≢ named_site revision row.site

-- a run is found, and fewer than 8 of the rows before are regressions of the entry
pub record Regresses (revision : Resolution) (enough : Assumed) (before : List ReportRow) (row : ReportRow) : Type 0 where
  pub witness : Witness
  pub witness_is : IsFoundAt revision enough row witness
  pub few : regression_count row.entry.0 before < 8

-- a run is found under the sufficient conditions, where there are some
abbrev pub RegressesBy : Resolution → Option (List (Name × Cond)) → List ReportRow → ReportRow → Type 0
RegressesBy revision (Some held) before row = Regresses revision (cond_of held) before row
RegressesBy revision None before row = ⊥

-- none is found, or 8 of the rows before are regressions of the entry; or there are no sufficient conditions
abbrev pub StaysBy : Resolution → Option (List (Name × Cond)) → List ReportRow → ReportRow → Type 0
StaysBy revision (Some held) before row = IsNotFound revision (cond_of held) row ⊎ (8 ≤ regression_count row.entry.0 before)
StaysBy revision None before row = ⊤

-- Clean: always provable. Hidden: else, and relatively provable. Else a regression, where a run is found, or an alarm.
abbrev pub IsOfClass : Review → List ReportRow → ReportRow → Class → Type 0
IsOfClass review before row Clean = IsAlwaysProvable review row
IsOfClass review before row Hidden = (¬ IsAlwaysProvable review row) × IsRelativelyProvable review row
IsOfClass review before row Regression = (¬ IsAlwaysProvable review row) × (¬ IsRelativelyProvable review row) × RegressesBy review.revision review.enough before row
IsOfClass review before row Alarm = (¬ IsAlwaysProvable review row) × (¬ IsRelativelyProvable review row) × StaysBy review.revision review.enough before row

-- one row for each place, in order, each of its class by the rows before it
pub record AreRows (review : Review) (rows : List ReportRow) : Type 0 where
  pub each : (row : ReportRow) → Contains rows row → IsPlace review.revision (place_of row)
  pub all : (place : Place) → IsPlace review.revision place → (row : ReportRow) × Contains rows row × (place_of row ≡ place)
  pub in_order : AllPairs (λ a b. IsBefore (place_of a) (place_of b)) rows
  pub classes : (before after : List ReportRow) (row : ReportRow) → rows ≡ before ++ row ∷ after → IsOfClass review before row row.class

-- the run of a regression, where there are sufficient conditions
abbrev pub IsWitnessBy : Resolution → Option (List (Name × Cond)) → ReportRow → Witness → Type 0
IsWitnessBy revision (Some held) row w = IsFoundAt revision (cond_of held) row w
IsWitnessBy revision None row w = ⊥

-- a run for each row that is a regression, in order
abbrev pub AreWitnesses : Review → List ReportRow → List Witness → Type 0
AreWitnesses review rows witnesses = AllZip (IsWitnessBy review.revision review.enough) (filter (λ row. is_class Regression row.class) rows) witnesses

-- how many rows have this class
abbrev pub class_count : Class → List ReportRow → ℕ
class_count class rows = count_by (λ row. is_class class row.class) rows

-- 3 where some row is a regression, else 2 where some row is an alarm, else 1: the revision is relatively correct
abbrev pub verdict_of : List ReportRow → ℕ
verdict_of rows = if class_count Regression rows == 0 then (if class_count Alarm rows == 0 then 1 else 2) else 3
