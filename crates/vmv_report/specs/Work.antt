-- The order of the work. Private contracts alone cite these definitions.
use Rattle.std.specs.Prelude.{◌≡◌, ◌≢◌, ◌↔◌, ◌⊎◌, ◌<◌, ◌≤◌, ℕ, true, Option, Some, None, IfSome, List, [], ◌∷◌, ◌++◌, length, map, slice_get, ⊤}
use Rattle.std.specs.List.{All, AllPairs, Contains}
use Rattle.vmv_tree.specs.declared.ends.NameEnds.{NameEnds}
use Rattle.vmv_tree.specs.declared.site.NamedSite.{NamedSite}
use Rattle.vmv_snapshot.specs.declared.code.ProcId.{ProcId}
use Rattle.vmv_snapshot.specs.Procs.{is_entry}
use Rattle.vmv_snapshot.specs.Resolution.{Resolution, IsResolution, procs_of}
use Rattle.vmv_assumption.specs.Whole.{whole}
use Rattle.vmv_assumption.specs.Assumed.{Assumed, cond_of}
use Rattle.vmv_cert.specs.Tables.{AreSitesOf, Provable}
use Rattle.vmv_tree.specs.declared.name.Name.{Name}
use Rattle.vmv_cond.specs.declared.cond.Cond.{Cond}
use Rattle.vmv_witness.specs.declared.witness.Witness.{Witness}
use Rattle.vmv_enough.specs.Enough.{NoneEmpty}
use Rattle.vmv_enough.specs.Failures.{IsCounterexample}
use Rattle.vmv_enough.specs.Found.{AreFound}
use Rattle.vmv_need.specs.declared.shown.ShownBy.{ShownBy}
use Rattle.vmv_need.specs.declared.shown.ShownBy.TheVariants.{EmptyName, Doomed}
use Rattle.vmv_proving.specs.Shown.{AreShown}
use Rattle.vmv_report.specs.declared.class.Class.{Class}
use Rattle.vmv_report.specs.declared.class.Class.TheVariants.{Clean, Hidden, Regression, Alarm}
use Rattle.vmv_report.specs.declared.row.ReportRow.{ReportRow}
use Rattle.vmv_report.specs.declared.proving.Judging.{Judging}
use Rattle.vmv_report.specs.declared.proving.EntrySites.{EntrySites}
use Rattle.vmv_report.specs.declared.told.Told.{Told}
use Rattle.vmv_report.specs.declared.ahead.Ahead.{Ahead}
use Rattle.vmv_tree.specs.Run.{name_of}
use Rattle.vmv_report.specs.Rows.{Place, place_of, IsPlace, IsBefore, Review, IsOfClass, AreWitnesses, regression_count}

-- the row's entry and the procedure of its site are procedures of the program
pub record IsInside (program : Resolution) (row : ReportRow) : Type 0 where
  pub entry : row.entry.0 < length (procs_of program)
  pub proc : row.site.proc.0 < length (procs_of program)

abbrev pub AreInside : Resolution → List ReportRow → Type 0
AreInside program rows = All (IsInside program) rows

-- an entry that doesn't return is a procedure of the program
abbrev pub IsShownOf : Resolution → ShownBy → Type 0
IsShownOf program (EmptyName name) = ⊤
IsShownOf program (Doomed entry within table) = entry.0 < length (procs_of program)

abbrev pub review_of : Judging → Review
review_of j = record { revision = j.revision.now; ends = j.ends.now; needed = cond_of j.needed.now; enough = j.enough.now }

-- the procedure of this number is an entry
abbrev pub IsEntryOf : Resolution → ℕ → Type 0
IsEntryOf program n = slice_get (map is_entry (procs_of program)) n ≡ Some true

-- those of the first n procedures that are entries, in text order
pub record AreEntries (program : Resolution) (n : ℕ) (entries : List ProcId) : Type 0 where
  pub each : (place : ℕ) (entry : ProcId) → slice_get entries place ≡ Some entry → IsEntryOf program entry.0 × (entry.0 < n)
  pub rising : (place later : ℕ) (entry next : ProcId) → place < later → slice_get entries place ≡ Some entry → slice_get entries later ≡ Some next → entry.0 < next.0
  pub all : (m : ℕ) → m < n → IsEntryOf program m → (place : ℕ) × (entry : ProcId) × (slice_get entries place ≡ Some entry) × (entry.0 ≡ m)

-- the resolution is one, with its entries, the first assumption is whole, under the sufficient conditions each outside name has
-- an answer, and tables that have been made are those of the entries
pub record IsReady (j : Judging) : Type 0 where
  pub is_resolution : IsResolution j.revision.now
  pub whole : (cond_of j.whole.now) ≡ (λ name. whole)
  pub nonempty : (held : List (Name × Cond)) → j.enough.now ≡ Some held → NoneEmpty j.revision.now (cond_of held)
  pub shown : IfSome j.shown (λ list. AreShown j.revision.now j.ends.now (cond_of j.needed.now) list.now)
  pub entries : AreEntries j.revision.now (length (procs_of j.revision.now)) j.entries.now

-- the sites that aren't provable for the entry of this number, sorted by procedure in text order, then by number, and distinct
pub record AreUnproved (program : Resolution) (n : ℕ) (ends : List NameEnds) (assumed : Assumed) (listed : List NamedSite) : Type 0 where
  pub decides : (site : NamedSite) → Provable program n ends assumed site ↔ (Contains listed site → ⊥)
  pub sites : AreSitesOf program n listed

-- what the probes of the entry of this number find under the sufficient conditions, where there are some
abbrev pub AreFoundBy : Resolution → Option (List (Name × Cond)) → ℕ → List Witness → Type 0
AreFoundBy revision (Some held) n found = AreFound revision n (cond_of held) found × All (IsCounterexample revision n (cond_of held)) found
AreFoundBy revision None n found = found ≡ []

-- empty where nothing is in the first list, else as it is said
abbrev pub WhereSome : {A B : Type 0} → List A → (List B → Type 0) → List B → Type 0
WhereSome [] said ys = ys ≡ []
WhereSome (x ∷ xs) said ys = said ys

-- The one list has the sites that aren't always provable for the entry; where there are some, the other has those that aren't
-- relatively provable. The runs are those that the probes find, where the other has some.
pub record AreSitesFor (review : Review) (n : ℕ) (sites : EntrySites) : Type 0 where
  pub always : AreUnproved review.revision n review.ends (λ name. whole) sites.always
  pub relative : WhereSome sites.always (AreUnproved review.revision n review.ends review.needed) sites.relative
  pub found : WhereSome sites.relative (AreFoundBy review.revision review.enough n) sites.found

-- those of the entry in this place
abbrev pub AreSitesAt : Review → List ProcId → ℕ → EntrySites → Type 0
AreSitesAt review entries place sites = (entry : ProcId) → slice_get entries place ≡ Some entry → AreSitesFor review entry.0 sites

-- those of each entry
pub record AreSitesOfAll (review : Review) (entries : List ProcId) (sites : List EntrySites) : Type 0 where
  pub count : length sites ≡ length entries
  pub each : (place : ℕ) (own : EntrySites) → slice_get sites place ≡ Some own → AreSitesAt review entries place own

-- a site that is in both lists
abbrev pub IsInBoth : EntrySites → NamedSite → Type 0
IsInBoth sites site = Contains sites.always site × Contains sites.relative site

-- the class of a site by whether it is in the lists; none of one that is in both
abbrev pub IsToldBy : (always relative : Type 0) → Option Class → Type 0
IsToldBy always relative (Some Clean) = ¬ always
IsToldBy always relative (Some Hidden) = always × (¬ relative)
IsToldBy always relative (Some Regression) = ⊥
IsToldBy always relative (Some Alarm) = ⊥
IsToldBy always relative None = always × relative

abbrev pub IsToldClass : EntrySites → NamedSite → Option Class → Type 0
IsToldClass sites site class = IsToldBy (Contains sites.always site) (Contains sites.relative site) class

-- the site stands before the place, by procedure in text order, then by number
pub record StandsBefore (program : Resolution) (place : Place) (site : NamedSite) : Type 0 where
  pub proc : ℕ
  pub named : slice_get (map name_of (procs_of program)) proc ≡ Some site.proc
  pub order : (proc < place.proc) ⊎ ((proc ≡ place.proc) × (site.index < place.index))

-- of these sites, in order, all that don't stand before the place
pub record AreAhead (program : Resolution) (place : Place) (sites ahead : List NamedSite) : Type 0 where
  pub passed : List NamedSite
  pub parts : sites ≡ passed ++ ahead
  pub before : (site : NamedSite) → Contains passed site → StandsBefore program place site
  pub behind : (site : NamedSite) → Contains ahead site → ¬ StandsBefore program place site

-- of both lists of an entry
abbrev pub IsAhead : Resolution → Place → EntrySites → Ahead → Type 0
IsAhead program place sites ahead = AreAhead program place sites.always ahead.always.now × AreAhead program place sites.relative ahead.relative.now

-- the site comes next
abbrev pub IsNext : List NamedSite → NamedSite → Type 0
IsNext [] site = ⊥
IsNext (first ∷ rest) site = first ≡ site

-- the site is passed where it comes next
abbrev pub IsPassed : List NamedSite → NamedSite → List NamedSite → Type 0
IsPassed old site new = (old ≡ site ∷ new) ⊎ ((¬ IsNext old site) × (new ≡ old))

-- the run fails at the site, and fewer than 8 rows are regressions of the entry
abbrev pub IsNextRun : ℕ → List Witness → NamedSite → Witness → Type 0
IsNextRun regressions found site w = Contains found w × (w.site ≡ site) × (regressions < 8)

-- no run fails at the site, or 8 rows are regressions of the entry
abbrev pub IsNoRun : ℕ → List Witness → NamedSite → Type 0
IsNoRun regressions found site = ((w : Witness) → Contains found w → w.site ≢ site) ⊎ (8 ≤ regressions)

-- one row for each place before this one, in order, each of its class
pub record AreRowsBefore (review : Review) (bound : Place) (rows : List ReportRow) : Type 0 where
  pub each : (row : ReportRow) → Contains rows row → IsPlace review.revision (place_of row) × IsBefore (place_of row) bound
  pub all : (place : Place) → IsPlace review.revision place → IsBefore place bound → (row : ReportRow) × Contains rows row × (place_of row ≡ place)
  pub in_order : AllPairs (λ a b. IsBefore (place_of a) (place_of b)) rows
  pub classes : (before after : List ReportRow) (row : ReportRow) → rows ≡ before ++ row ∷ after → IsOfClass review before row row.class

-- these rows, with a run for each regression, and how many of them are regressions of the entry
pub record IsToldBefore (review : Review) (bound : Place) (told : Told) : Type 0 where
  pub rows : AreRowsBefore review bound told.rows
  pub witnesses : AreWitnesses review told.rows told.witnesses
  pub counted : told.regressions ≡ regression_count bound.entry told.rows

abbrev pub at : ℕ → ℕ → ℕ → Place
at entry proc index = record { entry = entry; proc = proc; index = index }
