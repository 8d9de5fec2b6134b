-- Entries by their numbers.
use Rattle.std.proofs.Common.{◌≡◌, ℕ, true, Some, List, map, slice_get, sym, ap, subst, ◌∙◌}
use Rattle.vmv_tree.specs.declared.tree.Param.{Param}
use Rattle.vmv_tree.specs.Tree.{Item, outside, helper, entry}
use Rattle.vmv_snapshot.specs.Procs.{is_entry, params_of}
use Rattle.vmv_snapshot.specs.Resolution.{Resolution, IsResolution, tree_of, procs_of}
use Rattle.vmv_snapshot.proofs.Links.{map_at}
use Rattle.vmv_back.proofs.Params.{entry_params}
use Rattle.vmv_back.proofs.Boxed.{full_fits}
use Rattle.vmv_cert.specs.Tables.{Box, IsEntry, IsBoxIn, ranges_of}
use Rattle.vmv_check.proofs.Lists.{some_same}

-- a procedure with the mark of an entry is one
pub some_entry : (program : Resolution) (n : ℕ) → slice_get (map is_entry (procs_of program)) n ≡ Some true → (params : List Param) × IsEntry program n params
some_entry program n marked = let x = map_at is_entry (procs_of program) n true marked in of_item x.0 x.1 x.2
  where
    of_item : (item : Item) → slice_get (procs_of program) n ≡ Some item → is_entry item ≡ true → (params : List Param) × IsEntry program n params
    of_item (outside f arity) e m = absurd (cc)
    of_item (helper f params body) e m = absurd (cc)
    of_item (entry f params body) e m = (params, (f, body, e))

-- with the parameters that it takes
pub entry_is : (program : Resolution) (n : ℕ) (params : List Param) → slice_get (map is_entry (procs_of program)) n ≡ Some true → slice_get (map params_of (procs_of program)) n ≡ Some params → IsEntry program n params
entry_is program n params marked takes =
    let own = some_entry program n marked in
    let x = map_at params_of (procs_of program) n params takes in
    let same : own.0 ≡ params = ap params_of (some_same (sym own.1.2 ∙ x.1)) ∙ x.2 in
    let P : List Param → Type 0 = λ ps. IsEntry program n ps in
    subst P same own.1

-- the whole ranges lie in themselves, and none is empty
pub whole_box : (program : Resolution) (n : ℕ) (params : List Param) (box : Box) → IsResolution program → slice_get (map is_entry (procs_of program)) n ≡ Some true → slice_get (map params_of (procs_of program)) n ≡ Some params →
    box ≡ ranges_of params → IsBoxIn params box
whole_box program n params box is marked takes e =
    let good = entry_params (tree_of program) is.valid n params marked takes in
    let P : Box → Type 0 = λ b. IsBoxIn params b in
    subst P (sym e) (full_fits params good.1)
