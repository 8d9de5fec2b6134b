-- The rows of a revision, counted by what a proof shows of them. A row is a site that an entry reaches.
use Rattle.std.specs.Prelude.{◌≡◌, Bool, true, false, Some, List, map, count_by, slice_get}
use Rattle.std.specs.List.{AllPairs, Contains}
use Rattle.vmv_tree.specs.declared.tree.Param.{Param}
use Rattle.vmv_tree.specs.Run.{name_of}
use Rattle.vmv_snapshot.specs.Resolution.{Resolution, procs_of}
use Rattle.vmv_cert.specs.declared.row.Row.{Row}
use Rattle.vmv_cert.specs.Tables.{IsEntry, ranges_of}
use Rattle.vmv_cert.specs.Places.{Place, IsPlace, IsBefore, site_at}
use Rattle.vmv_proof.specs.declared.proof.Shown.{Shown}
use Rattle.vmv_proof_check.specs.declared.claims.Claims.{Claims}
use Rattle.vmv_proof_check.specs.Parts.{HasRow}

-- some row of the place's entry for its whole ranges doesn't list the site
abbrev pub LeavesOut : Resolution → Place → List Row → Type 0
LeavesOut revision place rows =
    (params : List Param) × IsEntry revision place.entry params × HasRow revision place.entry (ranges_of params) (λ row. ¬ Contains row.unproved (site_at revision place)) rows

-- what is shown of the place's entry
abbrev pub IsShownFor : Resolution → List Shown → Place → Shown → Type 0
IsShownFor revision shown place s = Contains shown s × (slice_get (map name_of (procs_of revision)) place.entry ≡ Some s.entry)

-- the plain table shows that the entry doesn't fail there
abbrev pub IsPlain : Resolution → List Shown → Place → Type 0
IsPlain revision shown place = (s : Shown) × IsShownFor revision shown place s × LeavesOut revision place s.plain.rows

-- the given table shows it
abbrev pub IsGiven : Resolution → List Shown → Place → Type 0
IsGiven revision shown place = (s : Shown) × IsShownFor revision shown place s × LeavesOut revision place s.given.rows

-- what is shown of a row
pub data Standing : Type 0 where
  clean : Standing
  hidden : Standing
  left : Standing

-- clean by the plain table, else hidden by the given one, else left
abbrev pub StandsAs : Resolution → List Shown → Place → Standing → Type 0
StandsAs revision shown place clean = IsPlain revision shown place
StandsAs revision shown place hidden = (¬ IsPlain revision shown place) × IsGiven revision shown place
StandsAs revision shown place left = (¬ IsPlain revision shown place) × (¬ IsGiven revision shown place)

abbrev pub is_clean : Standing → Bool
is_clean clean = true
is_clean hidden = false
is_clean left = false

abbrev pub is_hidden : Standing → Bool
is_hidden clean = false
is_hidden hidden = true
is_hidden left = false

abbrev pub is_left : Standing → Bool
is_left clean = false
is_left hidden = false
is_left left = true

-- each row once, in order, with what is shown of it
pub record AreStandings (revision : Resolution) (shown : List Shown) (rows : List (Place × Standing)) : Type 0 where
  pub each : (row : Place × Standing) → Contains rows row → IsPlace revision row.0 × StandsAs revision shown row.0 row.1
  pub all : (place : Place) → IsPlace revision place → (standing : Standing) × Contains rows (place, standing)
  pub in_order : AllPairs (λ a b. IsBefore a.0 b.0) rows

-- how many rows stand as each
pub record AreCounted (revision : Resolution) (shown : List Shown) (claims : Claims) : Type 0 where
  pub rows : List (Place × Standing)
  pub standings : AreStandings revision shown rows
  pub clean_is : claims.clean ≡ count_by (λ row. is_clean row.1) rows
  pub hidden_is : claims.hidden ≡ count_by (λ row. is_hidden row.1) rows
  pub left_is : claims.left ≡ count_by (λ row. is_left row.1) rows
