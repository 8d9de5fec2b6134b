-- The resolved trees of a program's procedures are determined by it.
use Rattle.std.proofs.Common.{◌≡◌, ◌⊎◌, inl, inr, ⊎_elim, ℕ, zero, suc, Some, List, [], ◌∷◌, ◌++◌, length, map, slice_get, refl, sym, ap, ◌∙◌, subst, arith}
use Rattle.std.specs.List.{Contains}
use Rattle.std.proofs.lemmas.List.Elements.{Contains-append_right}
use Rattle.vmv_tree.specs.declared.name.Name.{Name}
use Rattle.vmv_tree.specs.declared.tree.Param.{Param}
use Rattle.vmv_tree.specs.Tree.{Item, outside, helper, entry, Body}
use Rattle.vmv_tree.specs.Run.{name_of}
use Rattle.vmv_tree.specs.Valid.{Valid}
use Rattle.vmv_snapshot.specs.declared.code.ProcId.{ProcId}
use Rattle.vmv_snapshot.specs.declared.code.Code.{Code}
use Rattle.vmv_snapshot.specs.Code.{Body as CodeBody}
use Rattle.vmv_snapshot.specs.View.{code_of}
use Rattle.vmv_snapshot.specs.Procs.{procs, outsides, helper_name}
use Rattle.vmv_snapshot.specs.Resolves.{ResolvesItem, IsCode, scope_of}
use Rattle.vmv_snapshot.specs.Resolution.{Resolution, IsResolution, tree_of}
use Rattle.vmv_snapshot.proofs.Build.{procs-append}
use Rattle.vmv_snapshot.proofs.Distinct.{AreOnePlace}
use Rattle.vmv_run.proofs.Places.{helper_slots, entry_slots}
use Rattle.vmv_run.proofs.OneReplay.{procs_once}
use Rattle.vmv_run.proofs.Resolved.{onto, IsAmong, AreDistinct, split}
use Rattle.vmv_snapshot_laws.proofs.Views.{program_once}
use Rattle.vmv_snapshot_laws.proofs.CodeViews.{code_held_once}
use Rattle.vmv_snapshot_laws.proofs.Once.{body_once}

-- members of a list

here : {X : Type 0} (x : X) (xs : List X) → Contains (x ∷ xs) x
here x xs = (0, omega arith, refl)

later : {X : Type 0} (y : X) (xs : List X) (x : X) → Contains xs x → Contains (y ∷ xs) x
later y xs x c = let less = c.1 in (suc c.0, omega (arith, less), c.2)

parted : {X : Type 0} (y : X) (xs : List X) (x : X) → Contains (y ∷ xs) x → (y ≡ x) ⊎ Contains xs x
parted y xs x (zero, less, is) = let same : y ≡ x = cc is in inl same
parted y xs x (suc k, less, is) = inr (k, omega (arith, less), is)

-- a procedure's place

abbrev IsProc : Item → Type 0
IsProc (outside name arity) = ⊥
IsProc (helper name params body) = Unit {0}
IsProc (entry name params body) = Unit {0}

proc_of : (before : List Item) (item : Item) (code : CodeBody) → ResolvesItem before item code → IsProc item
proc_of before (outside name arity) code h = h
proc_of before (helper name params body) code h = tt
proc_of before (entry name params body) code h = tt

proc_counts : (item : Item) (items : List Item) → IsProc item → length (procs (item ∷ items)) ≡ suc (length (procs items))
proc_counts (outside name arity) items h = absurd h
proc_counts (helper name params body) items h = refl
proc_counts (entry name params body) items h = refl

fewer : (item : Item) (xs ys : List Item) → length (procs (item ∷ xs)) ≡ length (procs (item ∷ ys)) → length (procs xs) ≡ length (procs ys)
fewer (outside name arity) xs ys h = h
fewer (helper name params body) xs ys h = omega (arith, h)
fewer (entry name params body) xs ys h = omega (arith, h)

split_once : (xs ys : List Item) (x y : Item) (xs' ys' : List Item) → xs ++ x ∷ xs' ≡ ys ++ y ∷ ys' → length (procs xs) ≡ length (procs ys) → IsProc x → IsProc y
    → (xs ≡ ys) × (x ≡ y)
split_once [] [] x y xs' ys' e long px py = (refl, cc e)
split_once [] (z ∷ ys) x y xs' ys' e long px py =
    let same : x ≡ z = cc e in
    let more = proc_counts z ys (subst IsProc same px) in
    absurd (omega (arith, long, more))
split_once (z ∷ xs) [] x y xs' ys' e long px py =
    let same : y ≡ z = cc (sym e) in
    let more = proc_counts z xs (subst IsProc same py) in
    absurd (omega (arith, long, more))
split_once (z ∷ xs) (w ∷ ys) x y xs' ys' e long px py =
    let same : z ≡ w = cc e in
    let rest : xs ++ x ∷ xs' ≡ ys ++ y ∷ ys' = cc e in
    let more = split_once xs ys x y xs' ys' rest (fewer z xs ys (long ∙ ap (λ i. length (procs (i ∷ ys))) (sym same))) px py in
    ((λ i. same i ∷ more.0 i), more.1)

-- no item before has a name that another has

among : (xs : List Item) (a : Item) (name : Name) → Contains xs a → name_of a ≡ name → IsAmong xs name
among [] a name (k, less, is) e = absurd (omega (arith, less))
among (x ∷ xs) a name h e =
    ⊎_elim (λ (same : x ≡ a). inl (ap name_of same ∙ e)) (λ (c : Contains xs a). inr (among xs a name c e)) (parted x xs a h)

member_split : (x : Item) (xs : List Item) (a b : Item) → AreDistinct (x ∷ xs) → (AreDistinct xs → Contains xs a → Contains xs b → a ≡ b) → name_of a ≡ name_of b
    → (x ≡ a) ⊎ Contains xs a → (x ≡ b) ⊎ Contains xs b → a ≡ b
member_split x xs a b distinct later same (inl e) (inl d) = sym e ∙ d
member_split x xs a b distinct later same (inl e) (inr d) = absurd (distinct.0 (among xs b (name_of x) d (sym same ∙ ap name_of (sym e))))
member_split x xs a b distinct later same (inr e) (inl d) = absurd (distinct.0 (among xs a (name_of x) e (same ∙ ap name_of (sym d))))
member_split x xs a b distinct later same (inr e) (inr d) = later distinct.1 e d

member_once : (xs : List Item) (a b : Item) → AreDistinct xs → Contains xs a → Contains xs b → name_of a ≡ name_of b → a ≡ b
member_once [] a b distinct (k, less, is) there same = absurd (omega (arith, less))
member_once (x ∷ xs) a b distinct h there same =
    member_split x xs a b distinct (λ more c d. member_once xs a b more c d same) same (parted x xs a h) (parted x xs b there)

onto_above : (items above : List Item) (x : Item) → Contains above x → Contains (onto items above) x
onto_above [] above x h = h
onto_above (item ∷ items) above x h = onto_above items (item ∷ above) x (later item above x h)

in_onto : (items above : List Item) (x : Item) → Contains items x → Contains (onto items above) x
in_onto [] above x (k, less, is) = absurd (omega (arith, less))
in_onto (item ∷ items) above x h =
    ⊎_elim (λ (same : item ≡ x). onto_above items (item ∷ above) x (subst (λ y. Contains (y ∷ above) x) (sym same) (here x above)))
    (λ (c : Contains items x). in_onto items (item ∷ above) x c) (parted item items x h)

outside_in : (items : List Item) (name : Name) → Contains (outsides items) name → (arity : _) × Contains items (outside name arity)
outside_in [] name (k, less, is) = absurd (omega (arith, less))
outside_in (outside f arity ∷ items) name h =
    ⊎_elim (λ (same : f ≡ name). (arity, subst (λ n. Contains (outside f arity ∷ items) (outside n arity)) same (here (outside f arity) items)))
    (λ (c : Contains (outsides items) name). let more = outside_in items name c in (more.0, later (outside f arity) items (outside name more.0) more.1))
    (parted f (outsides items) name h)
outside_in (helper f params body ∷ items) name h = let more = outside_in items name h in (more.0, later (helper f params body) items (outside name more.0) more.1)
outside_in (entry f params body ∷ items) name h = let more = outside_in items name h in (more.0, later (entry f params body) items (outside name more.0) more.1)

-- the helper of this name is an item
record HasHelper (items : List Item) (name : Name) : Type 0 where
  params : List Name
  body : Body
  there : Contains items (helper name params body)

more_helper : (item : Item) (items : List Item) (name : Name) → HasHelper items name → HasHelper (item ∷ items) name
more_helper item items name h = record { params = h.params; body = h.body; there = later item items (helper name h.params h.body) h.there }

helper_in : (items : List Item) (n : ℕ) (name : Name) → slice_get (map helper_name (procs items)) n ≡ Some (Some name) → HasHelper items name
helper_in [] n name e = absurd (cc e)
helper_in (outside f arity ∷ items) n name e = more_helper (outside f arity) items name (helper_in items n name e)
helper_in (helper f params body ∷ items) zero name e =
    let same : f ≡ name = cc e in
    record { params = params; body = body; there = subst (λ g. Contains (helper f params body ∷ items) (helper g params body)) same (here (helper f params body) items) }
helper_in (helper f params body ∷ items) (suc n) name e = more_helper (helper f params body) items name (helper_in items n name e)
helper_in (entry f params body ∷ items) zero name e = absurd (cc e)
helper_in (entry f params body ∷ items) (suc n) name e = more_helper (entry f params body) items name (helper_in items n name e)

outside_no_helper : (name : Name) (arity : _) (params : List Name) (body : Body) → outside name arity ≡ helper name params body → ⊥
outside_no_helper name arity params body e = cc e

-- the number of a helper is that of its name
named_at : (ps rest : List Item) (n : ℕ) (name : Name) → slice_get (map helper_name ps) n ≡ Some (Some name) → slice_get (map name_of (ps ++ rest)) n ≡ Some name
named_at [] rest n name e = absurd (cc e)
named_at (outside f arity ∷ ps) rest zero name e = absurd (cc e)
named_at (helper f params body ∷ ps) rest zero name e = let same : f ≡ name = cc e in ap Some same
named_at (entry f params body ∷ ps) rest zero name e = absurd (cc e)
named_at (p ∷ ps) rest (suc n) name e = named_at ps rest n name e

helpers_once : (program before : List Item) (item : Item) (after : List Item) → Valid program → program ≡ before ++ item ∷ after → AreOnePlace (map helper_name (procs before))
helpers_once program before item after valid parts m n name h k =
    let all : procs program ≡ procs before ++ procs (item ∷ after) = ap procs parts ∙ procs-append before (item ∷ after) in
    let at : (p : ℕ) → slice_get (map helper_name (procs before)) p ≡ Some (Some name) → slice_get (map name_of (procs program)) p ≡ Some name =
    λ p e. ap (λ xs. slice_get (map name_of xs) p) all ∙ named_at (procs before) (procs (item ∷ after)) p name e in
    procs_once program m n name valid (at m h) (at n k)

apart_in : (program before : List Item) (item : Item) (after : List Item) → Valid program → program ≡ before ++ item ∷ after → (name : Name) (proc : ProcId)
    → Contains (outsides before) name → slice_get (map helper_name (procs before)) proc.0 ≡ Some (Some name) → ⊥
apart_in program before item after valid parts name proc asked called =
    let s = split program before item after valid parts in
    let o = outside_in before name asked in
    let q = helper_in before proc.0 name called in
    outside_no_helper name o.0 q.params q.body
    (member_once (onto before []) (outside name o.0) (helper name q.params q.body) s.above.distinct (in_onto before [] (outside name o.0) o.1)
    (in_onto before [] (helper name q.params q.body) q.there) refl)

at_place : (program before : List Item) (item : Item) (after : List Item) → program ≡ before ++ item ∷ after → Contains program item
at_place program before item after parts = subst (λ p. Contains p item) (sym parts) (Contains-append_right before (item ∷ after) item (here item after))

item_once : (program before : List Item) (item : Item) (after : List Item) (c d : CodeBody) → Valid program → program ≡ before ++ item ∷ after
    → ResolvesItem before item c → ResolvesItem before item d → c ≡ d
item_once program before (outside name arity) after c d valid parts h k = absurd h
item_once program before (helper name params body) after c d valid parts h k =
    body_once (scope_of before params body) (record {
      slots = helper_slots program name params body valid (at_place program before (helper name params body) after parts);
      helpers = helpers_once program before (helper name params body) after valid parts;
      apart = apart_in program before (helper name params body) after valid parts;
    }) body c d h k
item_once program before (entry name params body) after c d valid parts h k =
    body_once (scope_of before (map (λ (p : Param). p.name) params) body) (record {
      slots = entry_slots program name params body valid (at_place program before (entry name params body) after parts);
      helpers = helpers_once program before (entry name params body) after valid parts;
      apart = apart_in program before (entry name params body) after valid parts;
    }) body c d h k

code_once : (program : List Item) (n : ℕ) (c d : CodeBody) → Valid program → IsCode program n c → IsCode program n d → c ≡ d
code_once program n c d valid h k =
    let same = split_once h.before k.before h.item k.item h.after k.after (sym h.parts ∙ k.parts) (h.place ∙ sym k.place)
    (proc_of h.before h.item c h.resolves) (proc_of k.before k.item d k.resolves) in
    let moved : ResolvesItem h.before h.item d =
    subst (λ b. ResolvesItem b h.item d) (sym same.0) (subst (λ i. ResolvesItem k.before i d) (sym same.1) k.resolves) in
    item_once program h.before h.item h.after c d valid h.parts h.resolves moved

-- lists of equal length with the same at each place are one
codes_once : (cs ds : List Code) → length cs ≡ length ds → ((n : ℕ) (c d : Code) → slice_get cs n ≡ Some c → slice_get ds n ≡ Some d → c ≡ d) → cs ≡ ds
codes_once [] [] long h = refl
codes_once [] (d ∷ ds) long h = absurd (omega (arith, long))
codes_once (c ∷ cs) [] long h = absurd (omega (arith, long))
codes_once (c ∷ cs) (d ∷ ds) long h =
    let first = h 0 c d refl refl in
    let rest = codes_once cs ds (omega (arith, long)) (λ n x y e f. h (suc n) x y e f) in
    λ i. first i ∷ rest i

pub resolution_once : (one other : Resolution) → IsResolution one → IsResolution other → tree_of one ≡ tree_of other → one ≡ other
resolution_once one other h k same =
    let program = program_once one.program other.program same in
    let long : length one.codes ≡ length other.codes = h.count ∙ (ap (λ t. length (procs t)) same ∙ sym k.count) in
    let codes = codes_once one.codes other.codes long (λ n c d at to.
    code_held_once c d (code_once (tree_of one) n (code_of c) (code_of d) h.valid (h.resolves n c at)
    (subst (λ t. IsCode t n (code_of d)) (sym same) (k.resolves n d to)))) in
    λ i. record { program = program i; codes = codes i }
