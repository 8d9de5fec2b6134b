-- The entries of a program in order, and what is shown of them.
use Rattle.std.proofs.Common.{◌≡◌, ℕ, zero, suc, ◌+◌, ◌<◌, ◌≤◌, Bool, true, false, Some, List, [], ◌∷◌, ◌++◌, length, map, filter, take, get_or, slice_get, refl, sym, ap, subst, arith, ◌∙◌, append-nil}
use Rattle.std.specs.List.{Contains}
use Rattle.std.proofs.lemmas.List.{take_all, map-append, length-map}
use Rattle.std.proofs.lemmas.List.Elements.{filter-append}
use Rattle.std.proofs.Common.{length-take}
use Rattle.vmv_tree.specs.declared.name.Name.{Name}
use Rattle.vmv_tree.specs.Tree.{Item}
use Rattle.vmv_tree.specs.Run.{name_of}
use Rattle.vmv_snapshot.specs.Procs.{is_entry}
use Rattle.vmv_snapshot.specs.Resolution.{Resolution, IsResolution, tree_of, procs_of}
use Rattle.vmv_snapshot.proofs.Links.{map_at}
use Rattle.vmv_snapshot.proofs.Zips.{take_one_more}
use Rattle.vmv_check.proofs.Above.{procs_once}
use Rattle.vmv_check.proofs.Lists.{some_same, item_at}
use Rattle.vmv_proof.specs.declared.proof.Shown.{Shown}
use Rattle.vmv_proof_check.specs.Parts.{IsShaped}

-- the names of the entries among these
abbrev entry_names : List Item → List Name
entry_names items = map name_of (filter is_entry items)

kept : (x : Item) (items : List Item) → is_entry x ≡ true → entry_names (x ∷ items) ≡ name_of x ∷ entry_names items
kept x items e = rw e refl

dropped : (x : Item) (items : List Item) → is_entry x ≡ false → entry_names (x ∷ items) ≡ entry_names items
dropped x items e = rw e refl

names_append : (xs ys : List Item) → entry_names (xs ++ ys) ≡ entry_names xs ++ entry_names ys
names_append xs ys = ap (map name_of) (filter-append is_entry xs ys) ∙ map-append name_of (filter is_entry xs) (filter is_entry ys)

-- one more item that is an entry, or isn't
pub names_more : (items : List Item) (i : ℕ) (x : Item) → i < length items → x ≡ get_or items i x → is_entry x ≡ true → entry_names (take (i + 1) items) ≡ entry_names (take i items) ++ name_of x ∷ []
names_more items i x h is e = ap entry_names (take_one_more items i x h is) ∙ (names_append (take i items) (x ∷ []) ∙ ap (λ (ns : List Name). entry_names (take i items) ++ ns) (kept x [] e))

pub names_same : (items : List Item) (i : ℕ) (x : Item) → i < length items → x ≡ get_or items i x → is_entry x ≡ false → entry_names (take (i + 1) items) ≡ entry_names (take i items)
names_same items i x h is e = ap entry_names (take_one_more items i x h is) ∙ (names_append (take i items) (x ∷ []) ∙ (ap (λ (ns : List Name). entry_names (take i items) ++ ns) (dropped x [] e) ∙ append-nil (entry_names (take i items))))

-- an item by its place
pub item_there : (items : List Item) (i : ℕ) (x : Item) → slice_get items i ≡ Some x → (i < length items) × (x ≡ get_or items i x)
item_there [] i x e = absurd (cc)
item_there (y ∷ items) zero x e = (omega arith, sym (some_same e))
item_there (y ∷ items) (suc i) x e = let h = item_there items i x e in (omega (arith, h.0), h.1)

-- the name of an entry stands behind those of the entries before it
entry_stands : (items : List Item) (i : ℕ) (x : Item) → slice_get items i ≡ Some x → is_entry x ≡ true → slice_get (entry_names items) (length (entry_names (take i items))) ≡ Some (name_of x)
entry_stands [] i x at e = absurd (cc)
entry_stands (y ∷ items) zero x at e =
    let same : y ≡ x = some_same at in
    let k : entry_names (y ∷ items) ≡ name_of y ∷ entry_names items = kept y items (ap is_entry same ∙ e) in
    subst (λ (ns : List Name). slice_get ns 0 ≡ Some (name_of x)) (sym k) (ap (λ (z : Item). Some (name_of z)) same)
entry_stands (y ∷ items) (suc i) x at e = by (entry_stands items i x at e) (is_entry y) refl
  where
    by : slice_get (entry_names items) (length (entry_names (take i items))) ≡ Some (name_of x) → (b : Bool) → is_entry y ≡ b → slice_get (entry_names (y ∷ items)) (length (entry_names (y ∷ take i items))) ≡ Some (name_of x)
    by rest true f =
        let a = kept y items f in
        let b = kept y (take i items) f in
        subst (λ (ns : List Name). slice_get ns (length (entry_names (y ∷ take i items))) ≡ Some (name_of x)) (sym a)
        (subst (λ (ms : List Name). slice_get (name_of y ∷ entry_names items) (length ms) ≡ Some (name_of x)) (sym b) rest)
    by rest false f =
        let a = dropped y items f in
        let b = dropped y (take i items) f in
        subst (λ (ns : List Name). slice_get ns (length (entry_names (y ∷ take i items))) ≡ Some (name_of x)) (sym a)
        (subst (λ (ms : List Name). slice_get (entry_names items) (length ms) ≡ Some (name_of x)) (sym b) rest)

-- one more procedure
pub names_next : (items : List Item) (i : ℕ) (old new : List Name) → i < length items → old ≡ entry_names (take i items) → ((x : Item) → slice_get items i ≡ Some x → new ≡ old ++ entry_names (x ∷ [])) → new ≡ entry_names (take (i + 1) items)
names_next items i old new h e grown =
    let x = item_at items i h in
    let there = item_there items i x.0 x.1 in
    grown x.0 x.1 ∙ (ap (λ (ns : List Name). ns ++ entry_names (x.0 ∷ [])) e ∙ sym (ap entry_names (take_one_more items i x.0 there.0 there.1) ∙ names_append (take i items) (x.0 ∷ [])))

pub names_all : (items : List Item) (i : ℕ) (names : List Name) → length items ≤ i → names ≡ entry_names (take i items) → names ≡ entry_names items
names_all items i names h e = e ∙ ap entry_names (take_all i items h)

abbrev shown_names : List Shown → List Name
shown_names shown = map (λ (s : Shown). s.entry) shown

taken_length : (shown : List Shown) (next : ℕ) → next ≤ length shown → length (shown_names (take next shown)) ≡ next
taken_length shown next h =
    let a : length (shown_names (take next shown)) ≡ length (take next shown) = length-map (take next shown) (λ (s : Shown). s.entry) in
    let b = length-take next shown in
    omega (arith, a, b, h)

-- what is shown next is of the entry that comes next
pub next_shown : (revision : Resolution) (shown : List Shown) (n next : ℕ) (x : Item) → IsShaped revision shown → next ≤ length shown → shown_names (take next shown) ≡ entry_names (take n (procs_of revision)) →
    slice_get (procs_of revision) n ≡ Some x → is_entry x ≡ true → (s : Shown) × (slice_get shown next ≡ Some s) × (s.entry ≡ name_of x)
next_shown revision shown n next x shaped inside names at e =
    let count : length (entry_names (take n (procs_of revision))) ≡ next = ap length (sym names) ∙ taken_length shown next inside in
    let P : ℕ → Type 0 = λ k. slice_get (entry_names (procs_of revision)) k ≡ Some (name_of x) in
    let there : slice_get (entry_names (procs_of revision)) next ≡ Some (name_of x) = subst P count (entry_stands (procs_of revision) n x at e) in
    map_at (λ (s : Shown). s.entry) shown next (name_of x) (ap (λ (ns : List Name). slice_get ns next) shaped ∙ there)

-- and with it
pub next_names : (revision : Resolution) (shown : List Shown) (n next : ℕ) (x : Item) (s : Shown) → shown_names (take next shown) ≡ entry_names (take n (procs_of revision)) → slice_get (procs_of revision) n ≡ Some x → is_entry x ≡ true →
    next < length shown → s ≡ get_or shown next s → s.entry ≡ name_of x → shown_names (take (next + 1) shown) ≡ entry_names (take (n + 1) (procs_of revision))
next_names revision shown n next x s names at e inside is same =
    let there = item_there (procs_of revision) n x at in
    let a : shown_names (take (next + 1) shown) ≡ shown_names (take next shown) ++ s.entry ∷ [] = ap shown_names (take_one_more shown next s inside is) ∙ map-append (λ (z : Shown). z.entry) (take next shown) (s ∷ []) in
    let b = names_more (procs_of revision) n x there.0 there.1 e in
    a ∙ ((λ i. names i ++ same i ∷ []) ∙ sym b)

-- all that is shown has been gone through
pub all_shown : (revision : Resolution) (shown : List Shown) (n next : ℕ) → IsShaped revision shown → next ≤ length shown → length (procs_of revision) ≤ n → shown_names (take next shown) ≡ entry_names (take n (procs_of revision)) → take next shown ≡ shown
all_shown revision shown n next shaped inside end names =
    let whole : entry_names (take n (procs_of revision)) ≡ shown_names shown = ap entry_names (take_all n (procs_of revision) end) ∙ sym shaped in
    let a = taken_length shown next inside in
    let b : length (shown_names (take next shown)) ≡ length (shown_names shown) = ap length (names ∙ whole) in
    let c : length (shown_names shown) ≡ length shown = length-map shown (λ (s : Shown). s.entry) in
    take_all next shown (omega (arith, a, b, c))

-- a name stands once
abbrev AreOnce : List Name → Type 0
AreOnce names = (i j : ℕ) (x : Name) → slice_get names i ≡ Some x → slice_get names j ≡ Some x → i ≡ j

-- the name of an entry is that of an item
entry_item : (items : List Item) (i : ℕ) (x : Name) → slice_get (entry_names items) i ≡ Some x → (k : ℕ) × (slice_get (map name_of items) k ≡ Some x)
entry_item [] i x e = absurd (cc)
entry_item (y ∷ items) i x e = by (entry_item items) (is_entry y) refl
  where
    of_rest : ((k : ℕ) × (slice_get (map name_of items) k ≡ Some x)) → (k : ℕ) × (slice_get (map name_of (y ∷ items)) k ≡ Some x)
    of_rest (k, h) = (suc k, h)

    first : ((j : ℕ) (z : Name) → slice_get (entry_names items) j ≡ Some z → (k : ℕ) × (slice_get (map name_of items) k ≡ Some z)) → (j : ℕ) → slice_get (name_of y ∷ entry_names items) j ≡ Some x → (k : ℕ) × (slice_get (map name_of (y ∷ items)) k ≡ Some x)
    first rest zero h = (0, h)
    first rest (suc j) h = of_rest (rest j x h)

    by : ((j : ℕ) (z : Name) → slice_get (entry_names items) j ≡ Some z → (k : ℕ) × (slice_get (map name_of items) k ≡ Some z)) → (b : Bool) → is_entry y ≡ b → (k : ℕ) × (slice_get (map name_of (y ∷ items)) k ≡ Some x)
    by rest true f = first rest i (subst (λ (ns : List Name). slice_get ns i ≡ Some x) (kept y items f) e)
    by rest false f = of_rest (rest i x (subst (λ (ns : List Name). slice_get ns i ≡ Some x) (dropped y items f) e))

once_rest : (y : Item) (items : List Item) → AreOnce (map name_of (y ∷ items)) → AreOnce (map name_of items)
once_rest y items once i j x a b = let h = once (suc i) (suc j) x a b in omega (arith, h)

entries_once : (items : List Item) → AreOnce (map name_of items) → AreOnce (entry_names items)
entries_once [] once i j x a b = absurd (cc)
entries_once (y ∷ items) once i j x a b = by (entries_once items (once_rest y items once)) (is_entry y) refl
  where
    apart : (k : ℕ) → slice_get (entry_names items) k ≡ Some x → name_of y ≡ x → ⊥
    apart k h e = let t = entry_item items k x h in let z = once 0 (suc t.0) x (ap (λ (n : Name). Some n) e) t.1 in absurd (omega (arith, z))

    both : AreOnce (entry_names items) → (k l : ℕ) → slice_get (name_of y ∷ entry_names items) k ≡ Some x → slice_get (name_of y ∷ entry_names items) l ≡ Some x → k ≡ l
    both inside zero zero e f = refl
    both inside zero (suc l) e f = absurd (apart l f (some_same e))
    both inside (suc k) zero e f = absurd (apart k e (some_same f))
    both inside (suc k) (suc l) e f = ap suc (inside k l x e f)

    by : AreOnce (entry_names items) → (t : Bool) → is_entry y ≡ t → i ≡ j
    by inside true e = both inside i j (subst (λ (ns : List Name). slice_get ns i ≡ Some x) (kept y items e) a) (subst (λ (ns : List Name). slice_get ns j ≡ Some x) (kept y items e) b)
    by inside false e = inside i j x (subst (λ (ns : List Name). slice_get ns i ≡ Some x) (dropped y items e) a) (subst (λ (ns : List Name). slice_get ns j ≡ Some x) (dropped y items e) b)

placed : {X : Type 0} (xs : List X) (x : X) → Contains xs x → (k : ℕ) × (slice_get xs k ≡ Some x)
placed [] x (k, h, e) = absurd (omega (arith, h))
placed (y ∷ xs) x (zero, h, e) = (0, ap (λ z. Some z) e)
placed (y ∷ xs) x (suc k, h, e) = let g = placed xs x (k, omega (arith, h), e) in (suc g.0, g.1)

mapped : (shown : List Shown) (k : ℕ) (s : Shown) → slice_get shown k ≡ Some s → slice_get (shown_names shown) k ≡ Some s.entry
mapped [] k s e = absurd (cc)
mapped (t ∷ shown) zero s e = ap (λ (z : Shown). Some z.entry) (some_same e)
mapped (t ∷ shown) (suc k) s e = mapped shown k s e

-- one thing is shown of an entry
pub shown_once : (revision : Resolution) (shown : List Shown) (s t : Shown) → IsResolution revision → IsShaped revision shown → Contains shown s → Contains shown t → s.entry ≡ t.entry → s ≡ t
shown_once revision shown s t is shaped a b same =
    let k = placed shown s a in
    let l = placed shown t b in
    let names : AreOnce (shown_names shown) = subst AreOnce (sym shaped) (entries_once (procs_of revision) (procs_once (tree_of revision) is.valid)) in
    let e : k.0 ≡ l.0 = names k.0 l.0 s.entry (mapped shown k.0 s k.1) (mapped shown l.0 t l.1 ∙ ap (λ (n : Name). Some n) (sym same)) in
    some_same (sym k.1 ∙ (ap (λ (i : ℕ). slice_get shown i) e ∙ l.1))

-- the mark of an item is the one that is read
pub mark_is : (items : List Item) (n : ℕ) (x : Item) (b : Bool) → slice_get items n ≡ Some x → slice_get (map is_entry items) n ≡ Some b → is_entry x ≡ b
mark_is items n x b at marked = let y = map_at is_entry items n b marked in ap is_entry (some_same (sym at ∙ y.1)) ∙ y.2

pub push_none : (names : List Name) (x : Item) → is_entry x ≡ false → names ≡ names ++ entry_names (x ∷ [])
push_none names x e = sym (ap (λ (ns : List Name). names ++ ns) (dropped x [] e) ∙ append-nil names)

pub push_one : (names more : List Name) (x : Item) (name : Name) → is_entry x ≡ true → name_of x ≡ name → more ≡ names ++ name ∷ [] → more ≡ names ++ entry_names (x ∷ [])
push_one names more x name e same grown = grown ∙ sym (ap (λ (ns : List Name). names ++ ns) (kept x [] e ∙ ap (λ (n : Name). n ∷ []) same))

pub name_is : (items : List Item) (n : ℕ) (x : Item) (name : Name) → slice_get items n ≡ Some x → slice_get (map name_of items) n ≡ Some name → name_of x ≡ name
name_is items n x name at named = let y = map_at name_of items n name named in ap name_of (some_same (sym at ∙ y.1)) ∙ y.2
