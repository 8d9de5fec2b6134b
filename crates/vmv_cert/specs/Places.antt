-- The places at which an entry may fail: the sites of the procedures that it reaches, in order.
use Rattle.std.specs.Prelude.{◌≡◌, ◌⊎◌, ℕ, ◌<◌, ◌≤◌, Some, List, [], map, slice_get, unwrap_or}
use Rattle.vmv_tree.specs.declared.name.Name.{Name}
use Rattle.vmv_tree.specs.declared.site.NamedSite.{NamedSite}
use Rattle.vmv_tree.specs.declared.tree.Param.{Param}
use Rattle.vmv_tree.specs.Tree.{Item}
use Rattle.vmv_tree.specs.Run.{name_of}
use Rattle.vmv_snapshot.specs.Reaches.{Reaches}
use Rattle.vmv_snapshot.specs.Resolution.{Resolution, tree_of, procs_of}
use Rattle.vmv_snapshot.specs.Tables.{body_sites}
use Rattle.vmv_cert.specs.Tables.{IsEntry}

-- the name of the procedure of this number; it is empty where there is no such procedure
abbrev pub proc_name : Resolution → ℕ → Name
proc_name program n = unwrap_or (slice_get (map name_of (procs_of program)) n) []

-- the numbers of an entry, of a procedure and of a site in it
pub record Place : Type 0 where
  pub entry : ℕ
  pub proc : ℕ
  pub index : ℕ

-- its site with the procedure's name, as tables list it
abbrev pub site_at : Resolution → Place → NamedSite
site_at program place = record { proc = proc_name program place.proc; index = place.index }

-- the entry reaches the procedure, which it may be itself, and that has the site
pub record IsPlace (program : Resolution) (place : Place) : Type 0 where
  pub params : List Param
  pub entry : IsEntry program place.entry params
  pub item : Item
  pub proc : slice_get (procs_of program) place.proc ≡ Some item
  pub reached : Reaches (tree_of program) place.entry place.proc
  pub from : 1 ≤ place.index
  pub to : place.index ≤ body_sites item

-- by procedure in text order, then by number
abbrev pub IsSiteBefore : Place → Place → Type 0
IsSiteBefore a b = (a.proc < b.proc) ⊎ ((a.proc ≡ b.proc) × (a.index < b.index))

-- by entry in text order, then by site
abbrev pub IsBefore : Place → Place → Type 0
IsBefore a b = (a.entry < b.entry) ⊎ ((a.entry ≡ b.entry) × IsSiteBefore a b)
