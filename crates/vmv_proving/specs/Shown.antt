-- What a proof shows of the entries of a revision.
use Rattle.std.specs.Prelude.{◌≡◌, ℕ, Some, List, map, slice_get}
use Rattle.std.specs.List.{AllZip}
use Rattle.vmv_tree.specs.declared.ends.NameEnds.{NameEnds}
use Rattle.vmv_tree.specs.declared.tree.Param.{Param}
use Rattle.vmv_tree.specs.Run.{name_of}
use Rattle.vmv_snapshot.specs.Procs.{is_entry}
use Rattle.vmv_snapshot.specs.Resolution.{Resolution, procs_of}
use Rattle.vmv_assumption.specs.Whole.{whole}
use Rattle.vmv_assumption.specs.Assumed.{Assumed}
use Rattle.vmv_cert.specs.Tables.{IsEntry, ranges_of}
use Rattle.vmv_forward.specs.Least.{IsLeastTable}
use Rattle.vmv_need.specs.Candidates.{entries_from}
use Rattle.vmv_proof.specs.declared.proof.Shown.{Shown}

-- the least tables of the entry of this number over the whole ranges of its parameters: one whatever the outside names
-- answer, and one where the answers meet what is needed
pub record IsShownOf (revision : Resolution) (ends : List NameEnds) (needed : Assumed) (number : ℕ) (shown : Shown) : Type 0 where
  pub named : slice_get (map name_of (procs_of revision)) number ≡ Some shown.entry
  pub params : List Param
  pub entry : IsEntry revision number params
  pub plain : IsLeastTable revision number (ranges_of params) ends (λ name. whole) shown.plain.rows
  pub given : IsLeastTable revision number (ranges_of params) ends needed shown.given.rows

-- one for each entry, in text order
abbrev pub AreShown : Resolution → List NameEnds → Assumed → List Shown → Type 0
AreShown revision ends needed shown = AllZip (IsShownOf revision ends needed) (entries_from 0 (map is_entry (procs_of revision))) shown
