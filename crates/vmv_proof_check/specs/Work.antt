-- What the checker's own calls take and answer. Private contracts alone cite these definitions.
use Rattle.std.specs.Prelude.{◌≡◌, ◌↔◌, ◌⊎◌, ℕ, ◌+◌, ◌-◌, ◌*◌, ◌/◌, ◌<◌, ◌≤◌, ◌^◌, Bool, if◌then◌else◌, Option, Some, None, List, ◌∷◌, ◌++◌, length, map, take, filter, slice_get, count_by, ⊤}
use Rattle.std.specs.List.{AllPairs, Contains}
use Rattle.vmv_tree.specs.declared.name.Name.{Name}
use Rattle.vmv_tree.specs.declared.site.NamedSite.{NamedSite}
use Rattle.vmv_tree.specs.declared.tree.Param.{Param}
use Rattle.vmv_tree.specs.Run.{name_of}
use Rattle.vmv_cond.specs.declared.cond.Cond.{Cond}
use Rattle.vmv_snapshot.specs.Procs.{outsides, is_entry}
use Rattle.vmv_snapshot.specs.Resolution.{Resolution, tree_of, procs_of, IsResolution}
use Rattle.vmv_zone.specs.declared.zone.Zone.{Zone}
use Rattle.vmv_zone.specs.Zone.{IsNormOf}
use Rattle.vmv_assumption.specs.Whole.{whole}
use Rattle.vmv_assumption.specs.Assumed.{Assumed, names_of, cond_of}
use Rattle.vmv_cert.specs.declared.row.Row.{Row}
use Rattle.vmv_cert.specs.declared.row.Reach.TheVariants.{Bottom}
use Rattle.vmv_cert.specs.Tables.{Accepted, Box, IsBoxState, IsEntry, IsRowAbove, ranges_of}
use Rattle.vmv_cert.specs.Places.{Place, IsPlace, IsBefore, site_at}
use Rattle.vmv_check.specs.declared.refused.Refused.{Refused}
use Rattle.vmv_proof.specs.declared.proof.Exclusion.{Exclusion}
use Rattle.vmv_proof.specs.declared.proof.Shown.{Shown}
use Rattle.vmv_proof_check.specs.declared.claims.Claims.{Claims}
use Rattle.vmv_proof_check.specs.declared.claims.Part.{Part}
use Rattle.vmv_proof_check.specs.declared.claims.Part.TheVariants.{Exclusion as Excluding, Plain, Given, Shape}
use Rattle.vmv_proof_check.specs.declared.claims.ProofRefused.{ProofRefused}
use Rattle.vmv_proof_check.specs.declared.claims.ProofRefused.TheVariants.{At, Memory}
use Rattle.vmv_proof_check.specs.declared.cuts.Cuts.{Cuts}
use Rattle.vmv_proof_check.specs.declared.shown.Found.{Found}
use Rattle.vmv_proof_check.specs.declared.shown.Found.TheVariants.{Listed, Failed}
use Rattle.vmv_proof_check.specs.declared.sought.Sought.{Sought}
use Rattle.vmv_proof_check.specs.declared.tally.Checking.{Checking}
use Rattle.vmv_proof_check.specs.declared.tally.Lists.{Lists}
use Rattle.vmv_proof_check.specs.declared.tally.Tally.{Tally}
use Rattle.vmv_proof_check.specs.Cuts.{IsCutBy}
use Rattle.vmv_proof_check.specs.Parts.{Turn, passes, fails, HasRow, IsNamedEntry, IsTried, IsTableTried, PlainTurns, IsShaped}
use Rattle.vmv_proof_check.specs.Counts.{Standing, clean, hidden, left, StandsAs, IsPlain, IsGiven, is_clean, is_hidden, is_left, AreCounted}
use Rattle.vmv_proof_check.specs.Proofs.{IsExclusionRefused}

-- the name, and the normed state of the box
pub record IsSought (name : Name) (box : Box) (sought : Sought) : Type 0 where
  pub name_is : sought.name ≡ name
  pub boxed : Zone
  pub box_is : IsBoxState box boxed
  pub norm : IsNormOf boxed sought.least

-- of the rows of the entry above the box, of which there are some: each lists these sites, and some row doesn't list another one
pub record AreCommon (program : Resolution) (number : ℕ) (box : Box) (rows : List Row) (sites : List NamedSite) : Type 0 where
  pub some : HasRow program number box (λ row. ⊤) rows
  pub listed : (site : NamedSite) → Contains sites site → (row : Row) → Contains rows row → IsRowAbove program number box row → Contains row.unproved site
  pub left_out : (site : NamedSite) → ¬ Contains sites site → HasRow program number box (λ row. ¬ Contains row.unproved site) rows

-- the sites that these rows list, where there is such a row
abbrev pub AreFound : Resolution → ℕ → Box → List Row → Option (List NamedSite) → Type 0
AreFound program number box rows None = (row : Row) → Contains rows row → IsRowAbove program number box row → ⊥
AreFound program number box rows (Some sites) = AreCommon program number box rows sites

-- the site was among those before, or there were none before
abbrev pub IsBeforehand : Option (List NamedSite) → NamedSite → Type 0
IsBeforehand None site = ⊤
IsBeforehand (Some sites) site = Contains sites site

-- the sites that were there before, where there were some, and that the row lists
abbrev pub IsNarrowed : Option (List NamedSite) → Row → List NamedSite → Type 0
IsNarrowed before row sites = (site : NamedSite) → Contains sites site ↔ (IsBeforehand before site × Contains row.unproved site)

-- what is found with one more row: narrowed by it, where it is above the box
abbrev pub IsNextFound : Resolution → ℕ → Box → Option (List NamedSite) → Row → Option (List NamedSite) → Type 0
IsNextFound program number box found row next =
    (IsRowAbove program number box row × ((sites : List NamedSite) × (next ≡ Some sites) × IsNarrowed found row sites))
    ⊎ ((¬ IsRowAbove program number box row) × (next ≡ found))

-- how a part turns out where the first failure is given
abbrev pub turn_of : Option Refused → Turn
turn_of None = passes
turn_of (Some at) = fails at.row at.step

-- an assumption over the outside names of the program, cut by these exclusions
pub record IsCutFor (base : Resolution) (cuts : List Exclusion) (held : List (Name × Cond)) : Type 0 where
  pub names : names_of held ≡ outsides (tree_of base)
  pub cut : IsCutBy cuts (cond_of held)

-- the names of the exclusions are the program's
abbrev pub AreNamed : Resolution → List Exclusion → Type 0
AreNamed base xs = (x : Exclusion) → Contains xs x → Contains (outsides (tree_of base)) x.name

-- what is assumed behind these exclusions, and behind the first 0, 64, 128 and so on of them
pub record AreCuts (base : Resolution) (xs : List Exclusion) (cuts : Cuts) : Type 0 where
  pub last : IsCutFor base xs cuts.last
  pub count : length cuts.kept.items ≡ length xs / 64 + 1
  pub kept : (k : ℕ) (held : List (Name × Cond)) → slice_get cuts.kept.items k ≡ Some held → IsCutFor base (take (k * 64) xs) held

-- the table of an exclusion turns out so under an assumption
abbrev pub IsDeadTried : Resolution → Assumed → Exclusion → Turn → Type 0
IsDeadTried base assumed x turn =
    (number : ℕ) (params : List Param) → IsNamedEntry base x.entry number params → IsTried base assumed x.table.rows (HasRow base number x.within (λ row. row.result ≡ Bottom)) turn

-- the first exclusion that fails
abbrev pub IsRefusedExclusion : Resolution → List Exclusion → ProofRefused → Type 0
IsRefusedExclusion base xs Memory = ⊤
IsRefusedExclusion base xs (At (Excluding number) row step) = IsExclusionRefused base xs number row step
IsRefusedExclusion base xs (At (Plain name) row step) = ⊥
IsRefusedExclusion base xs (At (Given name) row step) = ⊥
IsRefusedExclusion base xs (At Shape row step) = ⊥

-- the sites that all rows of the entry of this number for its whole ranges list, of an accepted table that has such a row
abbrev pub IsTableListed : Resolution → Assumed → ℕ → List Row → List NamedSite → Type 0
IsTableListed revision assumed n rows sites =
    (params : List Param) → IsEntry revision n params → Accepted revision assumed rows × AreCommon revision n (ranges_of params) rows sites

-- how the table of the entry of this number fails
abbrev pub IsTableFailing : Resolution → Assumed → ℕ → List Row → (row step : ℕ) → Type 0
IsTableFailing revision assumed n rows row step =
    (params : List Param) → IsEntry revision n params → IsTried revision assumed rows (HasRow revision n (ranges_of params) (λ row. ⊤)) (fails row step)

abbrev pub IsTableFound : Resolution → Assumed → ℕ → List Row → Found → Type 0
IsTableFound revision assumed n rows (Listed sites) = IsTableListed revision assumed n rows sites
IsTableFound revision assumed n rows (Failed at) = IsTableFailing revision assumed n rows at.row at.step

-- it fails, and is this part
abbrev pub IsTableFailed : Resolution → Assumed → ℕ → List Row → Part → ProofRefused → Type 0
IsTableFailed revision assumed n rows part (At other row step) = (other ≡ part) × IsTableFailing revision assumed n rows row step
IsTableFailed revision assumed n rows part Memory = ⊤

-- both tables of an entry pass, with the sites that they list
pub record AreTablesListed (checking : Checking) (n : ℕ) (s : Shown) (lists : Lists) : Type 0 where
  pub plain : IsTableListed checking.revision.now (cond_of checking.whole.now) n s.plain.rows lists.plain
  pub given : IsTableListed checking.revision.now (cond_of checking.cut.now) n s.given.rows lists.given

-- the plain table of an entry fails, or the given one does behind it
abbrev pub IsEntryRefused : Checking → ℕ → Shown → ProofRefused → Type 0
IsEntryRefused checking n s Memory = ⊤
IsEntryRefused checking n s (At part row step) =
    ((part ≡ Plain s.entry) × IsTableFailing checking.revision.now (cond_of checking.whole.now) n s.plain.rows row step)
    ⊎ ((part ≡ Given s.entry) × ((sites : List NamedSite) × IsTableListed checking.revision.now (cond_of checking.whole.now) n s.plain.rows sites)
    × IsTableFailing checking.revision.now (cond_of checking.cut.now) n s.given.rows row step)

-- both tables of the entry pass under the two assumptions
abbrev pub IsWellUnder : Checking → Shown → Type 0
IsWellUnder checking s = PlainTurns checking.revision.now s passes × IsTableTried checking.revision.now (cond_of checking.cut.now) s.entry s.given.rows passes

-- of what is shown, the first that fails, under the two assumptions
pub record IsShownAt (checking : Checking) (s : Shown) : Type 0 where
  pub before : List Shown
  pub after : List Shown
  pub parts : checking.shown.now ≡ before ++ s ∷ after
  pub passed : (other : Shown) → Contains before other → IsWellUnder checking other

abbrev pub IsShownRefused : Checking → ProofRefused → Type 0
IsShownRefused checking Memory = ⊤
IsShownRefused checking (At part row step) =
    (s : Shown) × IsShownAt checking s
    × (((part ≡ Plain s.entry) × PlainTurns checking.revision.now s (fails row step))
    ⊎ ((part ≡ Given s.entry) × PlainTurns checking.revision.now s passes × IsTableTried checking.revision.now (cond_of checking.cut.now) s.entry s.given.rows (fails row step)))

-- the revision is valid, its entries are named, the first assumption is whole, and no table is too long
pub record IsReady (checking : Checking) : Type 0 where
  pub resolution : IsResolution checking.revision.now
  pub shaped : IsShaped checking.revision.now checking.shown.now
  pub whole_is : (name : Name) → cond_of checking.whole.now name ≡ whole
  pub plain : (s : Shown) → Contains checking.shown.now s → length s.plain.rows < 2 ^ 32
  pub given : (s : Shown) → Contains checking.shown.now s → length s.given.rows < 2 ^ 32

abbrev pub at : ℕ → ℕ → ℕ → Place
at entry proc index = record { entry = entry; proc = proc; index = index }

-- the lists tell which rows of the entry of this number the tables show
pub record AreListsFor (revision : Resolution) (shown : List Shown) (n : ℕ) (lists : Lists) : Type 0 where
  pub plain : (place : Place) → IsPlace revision place → place.entry ≡ n → IsPlain revision shown place ↔ (¬ Contains lists.plain (site_at revision place))
  pub given : (place : Place) → IsPlace revision place → place.entry ≡ n → IsGiven revision shown place ↔ (¬ Contains lists.given (site_at revision place))

-- how the lists tell of a site
abbrev pub IsListedAs : Lists → NamedSite → Standing → Type 0
IsListedAs lists site clean = ¬ Contains lists.plain site
IsListedAs lists site hidden = Contains lists.plain site × (¬ Contains lists.given site)
IsListedAs lists site left = Contains lists.plain site × Contains lists.given site

abbrev pub one_if : Bool → ℕ
one_if b = if b then 1 else 0

-- one more row that stands so
pub record IsOneMore (old : Claims) (standing : Standing) (new : Claims) : Type 0 where
  pub clean_is : new.clean ≡ old.clean + one_if (is_clean standing)
  pub hidden_is : new.hidden ≡ old.hidden + one_if (is_hidden standing)
  pub left_is : new.left ≡ old.left + one_if (is_left standing)

-- the counts of the rows before this place
pub record IsCountedBefore (revision : Resolution) (shown : List Shown) (bound : Place) (claims : Claims) : Type 0 where
  pub rows : List (Place × Standing)
  pub each : (row : Place × Standing) → Contains rows row → IsPlace revision row.0 × IsBefore row.0 bound × StandsAs revision shown row.0 row.1
  pub all : (place : Place) → IsPlace revision place → IsBefore place bound → (standing : Standing) × Contains rows (place, standing)
  pub in_order : AllPairs (λ a b. IsBefore a.0 b.0) rows
  pub clean_is : claims.clean ≡ count_by (λ row. is_clean row.1) rows
  pub hidden_is : claims.hidden ≡ count_by (λ row. is_hidden row.1) rows
  pub left_is : claims.left ≡ count_by (λ row. is_left row.1) rows
  pub few : claims.clean + claims.hidden + claims.left ≤ (bound.entry * 128 + bound.proc) * 2000 + (bound.index - 1)

-- the entries among the first procedures are checked and counted
pub record IsTallied (checking : Checking) (n : ℕ) (tally : Tally) : Type 0 where
  pub inside : tally.next ≤ length checking.shown.now
  pub names : map (λ s. s.entry) (take tally.next checking.shown.now) ≡ map name_of (filter is_entry (take n (procs_of checking.revision.now)))
  pub well : (s : Shown) → Contains (take tally.next checking.shown.now) s → IsWellUnder checking s
  pub counted : IsCountedBefore checking.revision.now checking.shown.now (at n 0 1) tally.claims

-- all entries are
pub record AreAllTallied (checking : Checking) (claims : Claims) : Type 0 where
  pub well : (s : Shown) → Contains checking.shown.now s → IsWellUnder checking s
  pub counted : AreCounted checking.revision.now checking.shown.now claims
