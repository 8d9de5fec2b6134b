-- A helper is found by its name.
use Rattle.std.proofs.Common.{◌≡◌, ℕ, zero, suc, Bool, true, false, Option, Some, None, List, [], ◌∷◌, ◌++◌, map, slice_get, if◌then◌else◌, refl, sym, ap, subst, ◌∙◌}
use Rattle.std.specs.List.{Contains, position, list_any}
use Rattle.std.proofs.lemmas.Map.Views.{Contains-from_any}
use Rattle.indexmap.specs.IndexSet.{insert_key}
use Rattle.vmv_tree.specs.declared.name.Name.{Name}
use Rattle.vmv_snapshot.specs.declared.tables.Proc.{Proc}
use Rattle.vmv_snapshot.specs.declared.tables.Tables.{Tables}
use Rattle.vmv_snapshot.specs.Tables.{callable, AreOnce, AreNumbered}
use Rattle.vmv_snapshot.proofs.NameEq.{name_eq, name_eq-same, name_eq-refl}
use Rattle.vmv_snapshot.proofs.Lookups.{contains_at, position_found, position_none, some_passes}

called_so : (entry : Bool) (own name : Name) → (if entry then None else Some own) ≡ Some name → own ≡ name
called_so true own name e = absurd (cc)
called_so false own name e = cc

-- who is called so has that name
pub named_so : (procs : List Proc) (k : ℕ) (name : Name) → slice_get (map callable procs) k ≡ Some (Some name) → slice_get (map (λ proc. proc.name) procs) k ≡ Some name
named_so [] k name e = absurd (cc)
named_so (p ∷ procs) zero name e =
    let c : callable p ≡ Some name = cc in
    ap (λ (x : Name). Some x) (called_so p.entry p.name name c)
named_so (p ∷ procs) (suc k) name e = named_so procs k name e

here : (tables : Tables) → AreNumbered tables → (name : Name) → Contains (map callable tables.procs.items) (Some name) →
    (k : ℕ) × (slice_get (map callable tables.procs.items) k ≡ Some (Some name)) × (slice_get tables.names.keys k ≡ Some name)
here tables numbered name there =
    let at = contains_at (map callable tables.procs.items) (Some name) there in
    (at.0, at.1, ap (λ (names : List Name). slice_get names at.0) numbered.names ∙ named_so tables.procs.items at.0 name at.1)

pub not_missing : (tables : Tables) → AreNumbered tables → (name : Name) → Contains (map callable tables.procs.items) (Some name) → None ≡ position (name_eq name) tables.names.keys → ⊥
not_missing tables numbered name there none =
    let at = here tables numbered name there in
    let differs : name_eq name name ≡ false = position_none (name_eq name) tables.names.keys (sym none) at.0 name at.2 in
    let same : name_eq name name ≡ true = name_eq-refl name in
    cc

pub helper_found : (tables : Tables) → AreNumbered tables → (name : Name) → Contains (map callable tables.procs.items) (Some name) → (i : ℕ) →
    Some i ≡ position (name_eq name) tables.names.keys → slice_get (map callable tables.procs.items) i ≡ Some (Some name)
helper_found tables numbered name there i found =
    let at = here tables numbered name there in
    let first = position_found (name_eq name) tables.names.keys i (sym found) in
    let same : first.0 ≡ name = sym (name_eq-same name first.0 first.2) in
    let i_is : i ≡ at.0 = numbered.once i at.0 name (first.1 ∙ ap (λ (x : Name). Some x) same) at.2 in
    ap (slice_get (map callable tables.procs.items)) i_is ∙ at.1

-- a table of names has a name exactly where its test finds it
pub named_in : (names : List Name) (name : Name) → list_any (name_eq name) names ≡ true → Contains names name
named_in names name h = Contains-from_any {K = Name} {eq = name_eq} name_eq-same name names h

pub in_names : (names : List Name) (name : Name) → Contains names name → list_any (name_eq name) names ≡ true
in_names names name there =
    let at = contains_at names name there in
    some_passes (name_eq name) names at.0 name at.1 (name_eq-refl name)

put_last : (b : Bool) (names : List Name) (name : Name) → b ≡ false → (if b then names else names ++ name ∷ []) ≡ names ++ name ∷ []
put_last true names name e = absurd (cc)
put_last false names name e = refl

not_true : (b : Bool) → (b ≡ true → ⊥) → b ≡ false
not_true true h = absurd (h refl)
not_true false h = refl

-- a new name goes last
pub insert_new : (names : List Name) (name : Name) → (Contains names name → ⊥) → insert_key name_eq names name ≡ names ++ name ∷ []
insert_new names name new = put_last (list_any (name_eq name) names) names name (not_true (list_any (name_eq name) names) (λ h. new (named_in names name h)))
