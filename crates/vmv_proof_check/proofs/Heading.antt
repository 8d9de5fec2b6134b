-- The head of an exclusion.
use Rattle.std.proofs.Common.{◌≡◌, ℕ, ◌≤◌, nat_le, IsTrue, true, false, Some, List, length, map, slice_get, refl, sym, ap, subst, arith, ◌∙◌}
use Rattle.std.specs.List.{Contains}
use Rattle.vmv_tree.specs.declared.name.Name.{Name}
use Rattle.vmv_tree.specs.declared.tree.Param.{Param}
use Rattle.vmv_tree.specs.Tree.{entry}
use Rattle.vmv_tree.specs.Run.{name_of}
use Rattle.vmv_snapshot.specs.Procs.{outsides, is_entry, params_of}
use Rattle.vmv_snapshot.specs.Resolution.{Resolution, IsResolution, tree_of, procs_of}
use Rattle.vmv_snapshot.proofs.Links.{map_at}
use Rattle.vmv_cert.specs.Tables.{IsBoxIn}
use Rattle.vmv_check.proofs.Above.{procs_once}
use Rattle.vmv_check.proofs.Lists.{some_same}
use Rattle.vmv_check.proofs.Orders.{name_at}
use Rattle.vmv_proof.specs.declared.proof.Exclusion.{Exclusion}
use Rattle.vmv_proof_check.specs.Parts.{IsNamedEntry, IsHeaded}
use Rattle.vmv_proof_check.proofs.Showing.{entry_of}

-- a procedure with this mark and name is an entry of the name
pub marked_named : (program : Resolution) (n : ℕ) (name : Name) → slice_get (map is_entry (procs_of program)) n ≡ Some true → slice_get (map name_of (procs_of program)) n ≡ Some name → (params : List Param) × IsNamedEntry program name n params
marked_named program n name marked named =
    let x = map_at is_entry (procs_of program) n true marked in
    let y = map_at name_of (procs_of program) n name named in
    let same : name_of x.0 ≡ name = ap name_of (some_same (sym x.1 ∙ y.1)) ∙ y.2 in
    let e = entry_of program n x.0 name x.1 x.2 same in
    (e.0, (e.1, e.2))

-- entries of one name are one
pub named_once : (program : Resolution) (name : Name) (n m : ℕ) (params more : List Param) → IsResolution program → IsNamedEntry program name n params → IsNamedEntry program name m more → (n ≡ m) × (params ≡ more)
named_once program name n m params more is (body, at) (inner, there) =
    let e : n ≡ m = procs_once (tree_of program) is.valid n m name (name_at program n (entry name params body) name at refl) (name_at program m (entry name more inner) name there refl) in
    let f : slice_get (procs_of program) n ≡ Some (entry name more inner) = subst (λ (k : ℕ). slice_get (procs_of program) k ≡ Some (entry name more inner)) (sym e) there in
    (e, ap params_of (some_same (sym at ∙ f)))

-- a procedure of another mark is no entry of its name
pub unmarked_named : (program : Resolution) (n m : ℕ) (name : Name) (params : List Param) → IsResolution program → slice_get (map is_entry (procs_of program)) n ≡ Some false → slice_get (map name_of (procs_of program)) n ≡ Some name → IsNamedEntry program name m params → ⊥
unmarked_named program n m name params is marked named (body, at) =
    let e : n ≡ m = procs_once (tree_of program) is.valid n m name named (name_at program m (entry name params body) name at refl) in
    let x = map_at is_entry (procs_of program) n false marked in
    let f : x.0 ≡ entry name params body = some_same (sym x.1 ∙ subst (λ (k : ℕ). slice_get (procs_of program) k ≡ Some (entry name params body)) (sym e) at) in
    let t : is_entry x.0 ≡ true = ap is_entry f in
    let u = x.2 in
    absurd (cc)

-- the parameters that an entry takes
pub taken : (program : Resolution) (n : ℕ) (name : Name) (params takes : List Param) → IsNamedEntry program name n params → slice_get (map params_of (procs_of program)) n ≡ Some takes → takes ≡ params
taken program n name params takes (body, at) told = let x = map_at params_of (procs_of program) n takes told in sym x.2 ∙ ap params_of (some_same (sym x.1 ∙ at))

module _ (program : Resolution) (before : List Exclusion) (x : Exclusion) (n : ℕ) (params takes : List Param) (is : IsResolution program) (named : IsNamedEntry program x.entry n params) (told : slice_get (map params_of (procs_of program)) n ≡ Some takes) where
  pub headed_here : IsBoxIn takes x.within → Contains (outsides (tree_of program)) x.name → x.under ≤ length before → IsHeaded program before x
  headed_here box there under = record { number = n; params = params; entry_is = named; name_is = there; box_is = subst (λ (ps : List Param). IsBoxIn ps x.within) (taken program n x.entry params takes named told) box; under_is = under }

  pub box_of : IsHeaded program before x → IsBoxIn takes x.within
  box_of head = subst (λ (ps : List Param). IsBoxIn ps x.within) ((named_once program x.entry head.number n head.params params is head.entry_is named).1 ∙ sym (taken program n x.entry params takes named told)) head.box_is

pub at_most_told : (a b : ℕ) → IsTrue (nat_le a b) → a ≤ b
at_most_told a b t = grind arith

pub told_at_most : (a b : ℕ) → a ≤ b → IsTrue (nat_le a b)
told_at_most a b h = grind arith
