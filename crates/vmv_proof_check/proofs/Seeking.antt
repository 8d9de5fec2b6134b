-- The rows of an entry above its whole ranges.
use Rattle.std.proofs.Common.{◌≡◌, inr, ℕ, ◌≤◌, true, Option, Some, None, List, length, map, slice_get, refl, sym, ap, subst, arith, ◌∙◌}
use Rattle.std.proofs.lemmas.List.{length-map}
use Rattle.vmv_tree.specs.declared.name.Name.{Name}
use Rattle.vmv_tree.specs.declared.site.NamedSite.{NamedSite}
use Rattle.vmv_tree.specs.declared.tree.Param.{Param}
use Rattle.vmv_tree.specs.Run.{name_of}
use Rattle.vmv_snapshot.specs.Procs.{is_entry, params_of}
use Rattle.vmv_snapshot.specs.Resolution.{Resolution, IsResolution, tree_of, procs_of}
use Rattle.vmv_snapshot.proofs.Links.{map_at}
use Rattle.vmv_back.proofs.Params.{entry_params}
use Rattle.vmv_assumption.specs.Assumed.{Assumed}
use Rattle.vmv_cert.specs.declared.row.Row.{Row}
use Rattle.vmv_cert.specs.Tables.{Accepted, Box, IsEntry, ranges_of}
use Rattle.vmv_check.proofs.Lists.{some_same}
use Rattle.vmv_proof_check.specs.declared.sought.Sought.{Sought}
use Rattle.vmv_proof_check.specs.Work.{IsSought, AreFound, IsTableListed, IsTableFailing}
use Rattle.vmv_proof_check.proofs.Excluding.{sought_here}

pub full_few : (revision : Resolution) (n : ℕ) (params : List Param) (box : Box) → IsResolution revision → slice_get (map is_entry (procs_of revision)) n ≡ Some true → slice_get (map params_of (procs_of revision)) n ≡ Some params → box ≡ ranges_of params → length box ≤ 16
full_few revision n params box is marked takes same =
    let good = entry_params (tree_of revision) is.valid n params marked takes in
    let l : length box ≡ length params = ap length same ∙ length-map params (λ (p : Param). (p.lo, p.hi)) in
    omega (arith, l, good.0)

-- the parameters of an entry are those that it takes
params_same : (revision : Resolution) (n : ℕ) (params more : List Param) → slice_get (map params_of (procs_of revision)) n ≡ Some params → IsEntry revision n more → params ≡ more
params_same revision n params more takes (name, body, at) = let x = map_at params_of (procs_of revision) n params takes in sym x.2 ∙ ap params_of (some_same (sym x.1 ∙ at))

abbrev pub Finds : Sought → List Row → Option (List NamedSite) → Type 0
Finds sought rows found = (program : Resolution) (number : ℕ) (box : Box) → slice_get (map name_of (procs_of program)) number ≡ Some sought.name → IsSought sought.name box sought → AreFound program number box rows found

found_of : (revision : Resolution) (n : ℕ) (params more : List Param) (name : Name) (box : Box) (sought : Sought) (rows : List Row) (found : Option (List NamedSite)) → slice_get (map params_of (procs_of revision)) n ≡ Some params → slice_get (map name_of (procs_of revision)) n ≡ Some name → box ≡ ranges_of params → IsSought name box sought →
    Finds sought rows found → IsEntry revision n more → AreFound revision n (ranges_of more) rows found
found_of revision n params more name box sought rows found takes named same is finds there =
    let e : box ≡ ranges_of more = same ∙ ap ranges_of (params_same revision n params more takes there) in
    subst (λ (b : Box). AreFound revision n b rows found) e (finds revision n box (named ∙ ap (λ (x : Name). Some x) (sym is.name_is)) (sought_here name box sought is))

pub listed_found : (revision : Resolution) (n : ℕ) (params : List Param) (name : Name) (box : Box) (sought : Sought) (rows : List Row) (sites : List NamedSite) (assumed : Assumed) → slice_get (map params_of (procs_of revision)) n ≡ Some params → slice_get (map name_of (procs_of revision)) n ≡ Some name → box ≡ ranges_of params → IsSought name box sought →
    Finds sought rows (Some sites) → Accepted revision assumed rows → IsTableListed revision assumed n rows sites
listed_found revision n params name box sought rows sites assumed takes named same is finds accepted more there = (accepted, found_of revision n params more name box sought rows (Some sites) takes named same is finds there)

pub none_found : (revision : Resolution) (n : ℕ) (params : List Param) (name : Name) (box : Box) (sought : Sought) (rows : List Row) (assumed : Assumed) → slice_get (map params_of (procs_of revision)) n ≡ Some params → slice_get (map name_of (procs_of revision)) n ≡ Some name → box ≡ ranges_of params → IsSought name box sought →
    Finds sought rows None → Accepted revision assumed rows → IsTableFailing revision assumed n rows 0 0
none_found revision n params name box sought rows assumed takes named same is finds accepted more there =
    let none = found_of revision n params more name box sought rows None takes named same is finds there in
    inr (accepted, (λ (row, among, above, any). none row among above), refl, refl)
