-- The tables of a program, item by item.
use Rattle.std.proofs.Common.{◌≡◌, ◌⊎◌, inl, inr, ⊎_elim, ℕ, zero, suc, ◌+◌, ◌<◌, ◌≤◌, pos, true, false, if◌then◌else◌, Option, Some, None, List, [], ◌∷◌, ◌++◌, length, map, take, drop, get_or, slice_get, refl, sym, ap, subst, arith, ◌∙◌, append_assoc, append-nil, length-append, add-one, drop-cons}
use Rattle.std.specs.List.{Contains}
use Rattle.std.proofs.lemmas.List.{map-append}
use Rattle.std.proofs.lemmas.List.Elements.{Contains-append_left, Contains-append_right, Contains-append_cases}
use Rattle.std.proofs.lemmas.Option.{slice_get_within}
use Rattle.vmv_tree.specs.declared.defect.Defect.{Defect}
use Rattle.vmv_tree.specs.declared.defect.Defect.TheVariants.{Repeated}
use Rattle.vmv_tree.specs.declared.name.Name.{Name}
use Rattle.vmv_tree.specs.declared.tree.Param.{Param}
use Rattle.vmv_tree.specs.declared.tree.Item as declared
use Rattle.vmv_tree.specs.View.{item_of, items_of}
use Rattle.vmv_tree.specs.Tree.{Body, Item, outside, helper, entry}
use Rattle.vmv_tree.specs.Run.{name_of, block_sites}
use Rattle.vmv_tree.specs.Mentions.{item_mentions}
use Rattle.vmv_tree.specs.Limits.{helper_count, entry_count, variables, block_statements}
use Rattle.vmv_tree.specs.Valid.{Takes, InItem, InItems, InBody, Valid}
use Rattle.vmv_snapshot.specs.declared.tables.Proc.{Proc}
use Rattle.vmv_snapshot.specs.declared.tables.Tables.{Tables}
use Rattle.vmv_snapshot.specs.View.{code_of}
use Rattle.vmv_snapshot.specs.Procs.{procs, outsides, helper_name, params_of, is_entry}
use Rattle.vmv_snapshot.specs.Resolves.{Scope, slot_names, scope_of, ResolvesBody, ResolvesItem, IsCode}
use Rattle.vmv_snapshot.specs.Resolvable.{IsReady}
use Rattle.vmv_snapshot.specs.Tables.{callable, scope_in, AreOnce, AreNumbered, IsNew, IsNext, IsProcOf, HasMore, Adds, body_sites, Tells, AreTables}
use Rattle.vmv_snapshot.proofs.Zips.{take_one_more}
use Rattle.vmv_snapshot.proofs.Lookups.{at_contains}
use Rattle.vmv_snapshot.proofs.Named.{first_or_further}
use Rattle.vmv_snapshot.proofs.Known.{Clean}
use Rattle.vmv_snapshot.proofs.Distinct.{AreFresh, names_fresh, params_fresh}
use Rattle.vmv_snapshot.proofs.Ready.{behind, body_ready}

pub procs-append : (xs ys : List Item) → procs (xs ++ ys) ≡ procs xs ++ procs ys
procs-append [] ys = refl
procs-append (outside name arity ∷ xs) ys = procs-append xs ys
procs-append (helper name params body ∷ xs) ys = ap (λ t. helper name params body ∷ t) (procs-append xs ys)
procs-append (entry name params body ∷ xs) ys = ap (λ t. entry name params body ∷ t) (procs-append xs ys)

pub outsides-append : (xs ys : List Item) → outsides (xs ++ ys) ≡ outsides xs ++ outsides ys
outsides-append [] ys = refl
outsides-append (outside name arity ∷ xs) ys = ap (λ t. name ∷ t) (outsides-append xs ys)
outsides-append (helper name params body ∷ xs) ys = outsides-append xs ys
outsides-append (entry name params body ∷ xs) ys = outsides-append xs ys

-- an item of a longer list is one of the list, or the last
pub push_cases : {X : Type 0} (xs : List X) (y : X) (n : ℕ) (z : X) → slice_get (xs ++ y ∷ []) n ≡ Some z → (slice_get xs n ≡ Some z) ⊎ ((n ≡ length xs) × (y ≡ z))
push_cases [] y zero z e = inr (refl, cc)
push_cases [] y (suc n) z e = absurd (cc)
push_cases (x ∷ xs) y zero z e = inl e
push_cases (x ∷ xs) y (suc n) z e = ⊎_elim (λ (h : slice_get xs n ≡ Some z). inl h) (λ (h : (n ≡ length xs) × (y ≡ z)). inr (ap suc h.0, h.1)) (push_cases xs y n z e)

once_more : (names : List Name) (x : Name) → AreOnce names → (Contains names x → ⊥) → AreOnce (names ++ x ∷ [])
once_more names x once new m n y a b =
    ⊎_elim
    (λ (h : slice_get names m ≡ Some y). ⊎_elim (λ (g : slice_get names n ≡ Some y). once m n y h g)
    (λ (g : (n ≡ length names) × (x ≡ y)). absurd (new (subst (Contains names) (sym g.1) (at_contains names m y h)))) (push_cases names x n y b))
    (λ (h : (m ≡ length names) × (x ≡ y)). ⊎_elim (λ (g : slice_get names n ≡ Some y). absurd (new (subst (Contains names) (sym h.1) (at_contains names n y g))))
    (λ (g : (n ≡ length names) × (x ≡ y)). h.0 ∙ sym g.0) (push_cases names x n y b))
    (push_cases names x m y a)

-- the tables hold what these items declare, and the rest is clean
pub record Built (program before rest : List Item) (tables : Tables) : Type 0 where
  pub parts : program ≡ before ++ rest
  pub above : List Item
  pub place : ℕ
  pub clean : Clean (InItems program above place rest)
  pub takes : (callee : Name) (n : ℕ) → Takes above callee n → Contains (outsides before) callee ⊎ Contains (map helper_name (procs before)) (Some callee)
  pub declared : (x : Name) → Contains (outsides before) x → Contains (map name_of above) x
  pub called : (x : Name) → Contains (map name_of (procs before)) x → Contains (map name_of above) x
  pub few_helpers : helper_count above ≤ 64
  pub few_entries : entry_count above ≤ 64
  pub apart : (x : Name) → Contains (outsides before) x → Contains (map name_of (procs before)) x → ⊥
  pub count : length (procs before) ≡ helper_count above + entry_count above
  pub asked : tables.outsides.keys ≡ outsides before
  pub names : tables.names.keys ≡ map name_of (procs before)
  pub helpers : map callable tables.procs.items ≡ map helper_name (procs before)
  pub numbered : AreNumbered tables
  pub long : length tables.procs.items ≡ length (procs before)
  pub tells : (n : ℕ) (proc : Proc) → slice_get tables.procs.items n ≡ Some proc → Tells program n proc

pub built_start : (program : List Item) (tables : Tables) → Valid program → tables.outsides.keys ≡ [] → tables.names.keys ≡ [] → tables.procs.items ≡ [] → Built program [] program tables
built_start program tables valid no_outsides no_names no_procs = record {
  parts = refl;
  above = [];
  place = 0;
  clean = valid;
  takes = λ callee n t. absurd t;
  declared = λ x h. h;
  called = λ x h. h;
  few_helpers = omega arith;
  few_entries = omega arith;
  apart = λ x (k, h, e) g. absurd (omega arith);
  count = refl;
  asked = no_outsides;
  names = no_names;
  helpers = ap (map callable) no_procs;
  numbered = record {
    few = let e : length tables.procs.items ≡ 0 = ap length no_procs in omega arith;
    names = no_names ∙ sym (ap (map (λ proc. proc.name)) no_procs);
    once = subst AreOnce (sym no_names) (λ m n x a b. absurd (cc));
  };
  long = ap length no_procs;
  tells = λ n proc e. let none : slice_get {X = Proc} [] n ≡ Some proc = subst (λ (xs : List Proc). slice_get xs n ≡ Some proc) no_procs e in absurd (cc);
}

pub built_end : (program before : List Item) (tables : Tables) → Built program before [] tables → AreTables program tables
built_end program before tables built =
    let whole : before ≡ program = sym (built.parts ∙ append-nil before) in
    record {
      asked = built.asked ∙ ap outsides whole;
      names = built.names ∙ ap (λ x. map name_of (procs x)) whole;
      numbered = built.numbered;
      apart = subst (λ (items : List Item). (x : Name) → Contains (outsides items) x → Contains (map name_of (procs items)) x → ⊥) whole built.apart;
      count = built.long ∙ ap (λ x. length (procs x)) whole;
      tells = built.tells;
    }

-- what names mean by the tables is what they mean behind the items
scope_same : (before : List Item) (params : List Name) (body : Body) (tables : Tables) → tables.outsides.keys ≡ outsides before → map callable tables.procs.items ≡ map helper_name (procs before) →
    scope_in tables (slot_names params body) ≡ scope_of before params body
scope_same before params body tables a b = λ i. record { outsides = a i; helpers = b i; slots = slot_names params body }

at_most : (n m : ℕ) → (m < n → ⊥) → n ≤ m
at_most n m h = grind arith

fewer : (n : ℕ) → n ≤ 64 → (n ≡ 64 → ⊥) → n < 64
fewer n h g = grind arith

-- a procedure that comes next
proc_next : (program before rest : List Item) (tables : Tables) (b : Built program before rest tables) (k : ℕ) (name : Name) (params : List Name) (body : Body) → length tables.procs.items < 128 →
    (Contains (map name_of b.above) name → ⊥) → AreFresh [] params → Clean (InBody b.above k params body) → (16 < variables params body → ⊥) → (2000 < block_statements body.block → ⊥) → IsNew tables name params body
proc_next program before rest tables b k name params body room unused fresh clean few statements = record {
  numbered = b.numbered;
  room = room;
  unused = λ h. unused (b.called name (subst (λ (xs : List Name). Contains xs name) b.names h));
  ready = subst (λ (scope : Scope). IsReady scope body) (sym (scope_same before params body tables b.asked b.helpers))
      (body_ready b.above before k params body fresh clean (at_most _ _ few) (at_most _ _ statements) b.takes);
}

pub item_next : (program before : List Item) (item : Item) (rest : List Item) (tables : Tables) → Built program before (item ∷ rest) tables → IsNext tables item
item_next program before (outside name arity) rest tables b =
    λ h. b.clean b.place Repeated (inl (inl (refl, refl, b.declared name (subst (λ (xs : List Name). Contains xs name) b.asked h))))
item_next program before (helper name params body) rest tables b =
    let less : helper_count b.above < 64 = fewer (helper_count b.above) b.few_helpers (λ h. b.clean b.place _ (inl (inr (inl (refl, refl, h))))) in
    let long = b.long in
    let count = b.count in
    let few = b.few_entries in
    proc_next program before (helper name params body ∷ rest) tables b (b.place + 1 + length params) name params body (omega arith) (λ h. b.clean b.place Repeated (inl (inl (refl, refl, h))))
    (names_fresh (b.place + 1) [] params (λ m d h. b.clean m d (inl (inr (inr (inr (inr (inl h))))))))
    (λ m d h. b.clean m d (inl (inr (inr (inr (inr (inr h))))))) (λ h. b.clean b.place _ (inl (inr (inr (inl (inl (refl, refl, h)))))))
    (λ h. b.clean b.place _ (inl (inr (inr (inl (inr (inl (refl, refl, h))))))))
item_next program before (entry name params body) rest tables b =
    let less : entry_count b.above < 64 = fewer (entry_count b.above) b.few_entries (λ h. b.clean b.place _ (inl (inr (inl (refl, refl, h))))) in
    let long = b.long in
    let count = b.count in
    let few = b.few_helpers in
    proc_next program before (entry name params body ∷ rest) tables b (b.place + 1 + length params) name (map (λ p. p.name) params) body (omega arith)
    (λ h. b.clean b.place Repeated (inl (inl (refl, refl, h)))) (params_fresh (b.place + 1) [] params (λ m d h. b.clean m d (inl (inr (inr (inr (inr (inl h))))))))
    (λ m d h. b.clean m d (inl (inr (inr (inr (inr (inr h))))))) (λ h. b.clean b.place _ (inl (inr (inr (inl (inl (refl, refl, h)))))))
    (λ h. b.clean b.place _ (inl (inr (inr (inl (inr (inl (refl, refl, h))))))))

-- what one more procedure tells
new_tells : (program before : List Item) (item : Item) (rest : List Item) (params : List Name) (body : Body) (tables : Tables) (proc : Proc) → program ≡ before ++ item ∷ rest → procs (item ∷ rest) ≡ item ∷ procs rest →
    tables.outsides.keys ≡ outsides before → map callable tables.procs.items ≡ map helper_name (procs before) → body_sites item ≡ block_sites body.block →
    (ResolvesBody (scope_of before params body) body (code_of proc.code) → ResolvesItem before item (code_of proc.code)) → IsProcOf tables item params body proc → Tells program (length (procs before)) proc
new_tells program before item rest params body tables proc parts is_proc asked helpers counted to_item is =
    let all : procs program ≡ procs before ++ item ∷ procs rest = ap procs parts ∙ (procs-append before (item ∷ rest) ∙ ap (λ t. procs before ++ t) is_proc) in
    let n : ℕ = length (procs before) in
    record {
      item = item;
      place = ap (λ (xs : List Item). slice_get xs n) all ∙ behind (procs before) (item ∷ procs rest) 0 n (omega arith);
      name = is.name;
      entry = is.entry;
      params = is.params;
      sites = is.sites ∙ sym counted;
      code = record {
        before = before;
        item = item;
        after = rest;
        parts = parts;
        place = refl;
        resolves = to_item (subst (λ (scope : Scope). ResolvesBody scope body (code_of proc.code)) (scope_same before params body tables asked helpers) is.code);
      };
    }

-- the tables with one more procedure
record Grown (program before : List Item) (item : Item) (old new : Tables) : Type 0 where
  asked : new.outsides.keys ≡ outsides before
  names : new.names.keys ≡ map name_of (procs before ++ item ∷ [])
  helpers : map callable new.procs.items ≡ map helper_name (procs before ++ item ∷ [])
  numbered : AreNumbered new
  long : length new.procs.items ≡ length (procs before ++ item ∷ [])
  tells : (n : ℕ) (proc : Proc) → slice_get new.procs.items n ≡ Some proc → Tells program n proc

grown : (program before : List Item) (item : Item) (left : List Item) (old : Tables) (proc : Proc) (new : Tables) → Built program before left old → HasMore old proc new → proc.name ≡ name_of item →
    callable proc ≡ helper_name item → (Contains old.names.keys (name_of item) → ⊥) → length old.procs.items < 128 → Tells program (length (procs before)) proc → Grown program before item old new
grown program before item left old proc new b more name called unused room told =
    let longer : length new.procs.items ≡ length old.procs.items + 1 = ap length more.procs ∙ length-append old.procs.items (proc ∷ []) in
    record {
      asked = more.outsides ∙ b.asked;
      names = more.names ∙ ((λ i. b.names i ++ name i ∷ []) ∙ sym (map-append name_of (procs before) (item ∷ [])));
      helpers = ap (map callable) more.procs ∙ (map-append callable old.procs.items (proc ∷ []) ∙ ((λ i. b.helpers i ++ called i ∷ []) ∙ sym (map-append helper_name (procs before) (item ∷ []))));
      numbered = record {
        few = omega arith;
        names = more.names ∙ (ap (λ (xs : List Name). xs ++ proc.name ∷ []) b.numbered.names ∙ (sym (map-append (λ p. p.name) old.procs.items (proc ∷ [])) ∙ sym (ap (map (λ p. p.name)) more.procs)));
        once = subst AreOnce (sym (more.names ∙ ap (λ (x : Name). old.names.keys ++ x ∷ []) name)) (once_more old.names.keys (name_of item) b.numbered.once unused);
      };
      long = longer ∙ (ap (λ n. n + 1) b.long ∙ sym (length-append (procs before) (item ∷ [])));
      tells = λ n p e.
          ⊎_elim (λ (h : slice_get old.procs.items n ≡ Some p). b.tells n p h)
          (λ (h : (n ≡ length old.procs.items) × (proc ≡ p)). subst (λ k. Tells program k p) (sym (h.0 ∙ b.long)) (subst (Tells program (length (procs before))) h.1 told))
          (push_cases old.procs.items proc n p (subst (λ (xs : List Proc). slice_get xs n ≡ Some p) more.procs e));
    }

last : {X : Type 0} (xs : List X) (x : X) → Contains (xs ++ x ∷ []) x
last xs x = Contains-append_right xs (x ∷ []) x (0, omega arith, refl)

longer_has : {X : Type 0} (xs : List X) (x y : X) → Contains xs y → Contains (xs ++ x ∷ []) y
longer_has xs x y h = Contains-append_left xs (x ∷ []) y h

-- a name that is called so by one more item, or by those before
one_more_called : (xs : List Item) (item : Item) (above : List Item) (x : Name) → ((y : Name) → Contains (map name_of xs) y → Contains (map name_of above) y) →
    Contains (map name_of (xs ++ item ∷ [])) x → Contains (map name_of (item ∷ above)) x
one_more_called xs item above x old h =
    ⊎_elim (λ (g : Contains (map name_of xs) x). Contains-append_right (name_of item ∷ []) (map name_of above) x (old x g))
    (λ (g : Contains (name_of item ∷ []) x). Contains-append_left (name_of item ∷ []) (map name_of above) x g)
    (Contains-append_cases (map name_of xs) (name_of item ∷ []) x (rw map-append at h))

only : (name x : Name) → Contains (name ∷ []) x → name ≡ x
only name x h = ⊎_elim (λ (e : name ≡ x). e) (λ (g : Contains [] x). absurd (omega (arith, g.1))) (first_or_further name [] x h)

apart_more : (before : List Item) (item : Item) (above : List Item) (name : Name) → outsides (before ++ item ∷ []) ≡ outsides before → procs (before ++ item ∷ []) ≡ procs before ++ item ∷ [] →
    ((x : Name) → Contains (outsides before) x → Contains (map name_of (procs before)) x → ⊥) → ((x : Name) → Contains (outsides before) x → Contains (map name_of above) x) →
    (Contains (map name_of above) name → ⊥) → name_of item ≡ name → (x : Name) → Contains (outsides (before ++ item ∷ [])) x → Contains (map name_of (procs (before ++ item ∷ []))) x → ⊥
apart_more before item above name same longer apart declared new own x h g =
    let asked : Contains (outsides before) x = subst (λ (xs : List Name). Contains xs x) same h in
    let called : Contains (map name_of (procs before) ++ name_of item ∷ []) x = subst (λ (xs : List Name). Contains xs x) (ap (map name_of) longer ∙ map-append name_of (procs before) (item ∷ [])) g in
    ⊎_elim (λ (k : Contains (map name_of (procs before)) x). apart x asked k)
    (λ (k : Contains (name_of item ∷ []) x). new (subst (Contains (map name_of above)) (sym (only (name_of item) x k) ∙ own) (declared x asked)))
    (Contains-append_cases (map name_of (procs before)) (name_of item ∷ []) x called)

built_outside : (program before : List Item) (name : Name) (arity : _) (rest : List Item) (old new : Tables) → Built program before (outside name arity ∷ rest) old → Adds old (outside name arity) new →
    Built program (before ++ outside name arity ∷ []) rest new
built_outside program before name arity rest old new b adds =
    let item : Item = outside name arity in
    let same : procs (before ++ item ∷ []) ≡ procs before = procs-append before (item ∷ []) ∙ append-nil (procs before) in
    let more : outsides (before ++ item ∷ []) ≡ outsides before ++ name ∷ [] = outsides-append before (item ∷ []) in
    record {
      parts = b.parts ∙ sym (append_assoc before (item ∷ []) rest);
      above = item ∷ b.above;
      place = b.place + item_mentions item;
      clean = λ m d h. b.clean m d (inr h);
      takes = λ callee n t. rw (same, more)
          (⊎_elim (λ (h : (name ≡ callee) × (arity ≡ pos n)). inl (subst (Contains (outsides before ++ name ∷ [])) h.0 (last (outsides before) name)))
          (λ (h : Takes b.above callee n). ⊎_elim (λ (g : Contains (outsides before) callee). inl (longer_has (outsides before) name callee g))
          (λ (g : Contains (map helper_name (procs before)) (Some callee)). inr g) (b.takes callee n h))
          t);
      declared = λ x h.
          ⊎_elim (λ (g : Contains (outsides before) x). Contains-append_right (name ∷ []) (map name_of b.above) x (b.declared x g))
          (λ (g : Contains (name ∷ []) x). Contains-append_left (name ∷ []) (map name_of b.above) x g)
          (Contains-append_cases (outsides before) (name ∷ []) x (subst (λ (xs : List Name). Contains xs x) more h));
      called = λ x h. Contains-append_right (name ∷ []) (map name_of b.above) x (b.called x (subst (λ (xs : List Item). Contains (map name_of xs) x) same h));
      few_helpers = b.few_helpers;
      few_entries = b.few_entries;
      apart = λ x h g.
          let called : Contains (map name_of (procs before)) x = subst (λ (xs : List Item). Contains (map name_of xs) x) same g in
          ⊎_elim (λ (k : Contains (outsides before) x). b.apart x k called)
          (λ (k : Contains (name ∷ []) x). b.clean b.place Repeated (inl (inl (refl, refl, subst (Contains (map name_of b.above)) (sym (only name x k)) (b.called x called)))))
          (Contains-append_cases (outsides before) (name ∷ []) x (subst (λ (xs : List Name). Contains xs x) more h));
      count = ap length same ∙ b.count;
      asked = adds.0 ∙ (ap (λ (xs : List Name). xs ++ name ∷ []) b.asked ∙ sym more);
      names = adds.1 ∙ (b.names ∙ sym (ap (map name_of) same));
      helpers = ap (map callable) adds.2 ∙ (b.helpers ∙ sym (ap (map helper_name) same));
      numbered = record {
        few = subst (λ (xs : List Proc). length xs ≤ 128) (sym adds.2) b.numbered.few;
        names = adds.1 ∙ (b.numbered.names ∙ sym (ap (map (λ p. p.name)) adds.2));
        once = subst AreOnce (sym adds.1) b.numbered.once;
      };
      long = ap length adds.2 ∙ (b.long ∙ sym (ap length same));
      tells = λ n p e. b.tells n p (subst (λ (xs : List Proc). slice_get xs n ≡ Some p) adds.2 e);
    }

callable_helper : (proc : Proc) (name : Name) → proc.entry ≡ false → proc.name ≡ name → callable proc ≡ Some name
callable_helper proc name a b = λ i. if a i then None else Some (b i)

callable_entry : (proc : Proc) → proc.entry ≡ true → callable proc ≡ None
callable_entry proc a = λ i. if a i then None else Some proc.name

built_helper : (program before : List Item) (name : Name) (params : List Name) (body : Body) (rest : List Item) (old new : Tables) → Built program before (helper name params body ∷ rest) old →
    IsNew old name params body → Adds old (helper name params body) new → Built program (before ++ helper name params body ∷ []) rest new
built_helper program before name params body rest old new b fresh (proc, is, more) =
    let item : Item = helper name params body in
    let told = new_tells program before item rest params body old proc b.parts refl b.asked b.helpers refl (λ r. r) is in
    let g = grown program before item (item ∷ rest) old proc new b more is.name (callable_helper proc name is.entry is.name) fresh.unused fresh.room told in
    let longer : procs (before ++ item ∷ []) ≡ procs before ++ item ∷ [] = procs-append before (item ∷ []) in
    let same : outsides (before ++ item ∷ []) ≡ outsides before = outsides-append before (item ∷ []) ∙ append-nil (outsides before) in
    let less : helper_count b.above < 64 = fewer (helper_count b.above) b.few_helpers (λ h. b.clean b.place _ (inl (inr (inl (refl, refl, h))))) in
    let long = length-append (procs before) (item ∷ []) in
    let count = b.count in
    record {
      parts = b.parts ∙ sym (append_assoc before (item ∷ []) rest);
      above = item ∷ b.above;
      place = b.place + item_mentions item;
      clean = λ m d h. b.clean m d (inr h);
      takes = λ callee n t. rw (same, longer, map-append)
          (⊎_elim
          (λ (h : (name ≡ callee) × (length params ≡ n)). inr (subst (λ x. Contains (map helper_name (procs before) ++ Some name ∷ []) (Some x)) h.0 (last (map helper_name (procs before)) (Some name))))
          (λ (h : Takes b.above callee n). ⊎_elim (λ (k : Contains (outsides before) callee). inl k)
          (λ (k : Contains (map helper_name (procs before)) (Some callee)). inr (longer_has (map helper_name (procs before)) (Some name) (Some callee) k)) (b.takes callee n h))
          t);
      declared = λ x h. Contains-append_right (name ∷ []) (map name_of b.above) x (b.declared x (subst (λ (xs : List Name). Contains xs x) same h));
      called = λ x h. one_more_called (procs before) item b.above x b.called (subst (λ (xs : List Item). Contains (map name_of xs) x) longer h);
      few_helpers = omega arith;
      few_entries = b.few_entries;
      apart = apart_more before item b.above name same longer b.apart b.declared (λ h. b.clean b.place Repeated (inl (inl (refl, refl, h)))) refl;
      count = let l : length (procs (before ++ item ∷ [])) ≡ length (procs before ++ item ∷ []) = ap length longer in omega arith;
      asked = g.asked ∙ sym same;
      names = g.names ∙ sym (ap (map name_of) longer);
      helpers = g.helpers ∙ sym (ap (map helper_name) longer);
      numbered = g.numbered;
      long = g.long ∙ sym (ap length longer);
      tells = g.tells;
    }

built_entry : (program before : List Item) (name : Name) (params : List Param) (body : Body) (rest : List Item) (old new : Tables) → Built program before (entry name params body ∷ rest) old →
    IsNew old name (map (λ p. p.name) params) body → Adds old (entry name params body) new → Built program (before ++ entry name params body ∷ []) rest new
built_entry program before name params body rest old new b fresh (proc, is, more) =
    let item : Item = entry name params body in
    let told = new_tells program before item rest (map (λ p. p.name) params) body old proc b.parts refl b.asked b.helpers refl (λ r. r) is in
    let g = grown program before item (item ∷ rest) old proc new b more is.name (callable_entry proc is.entry) fresh.unused fresh.room told in
    let longer : procs (before ++ item ∷ []) ≡ procs before ++ item ∷ [] = procs-append before (item ∷ []) in
    let same : outsides (before ++ item ∷ []) ≡ outsides before = outsides-append before (item ∷ []) ∙ append-nil (outsides before) in
    let less : entry_count b.above < 64 = fewer (entry_count b.above) b.few_entries (λ h. b.clean b.place _ (inl (inr (inl (refl, refl, h))))) in
    let long = length-append (procs before) (item ∷ []) in
    let count = b.count in
    record {
      parts = b.parts ∙ sym (append_assoc before (item ∷ []) rest);
      above = item ∷ b.above;
      place = b.place + item_mentions item;
      clean = λ m d h. b.clean m d (inr h);
      takes = λ callee n t. rw (same, longer, map-append)
          (⊎_elim (λ (k : Contains (outsides before) callee). inl k)
          (λ (k : Contains (map helper_name (procs before)) (Some callee)). inr (longer_has (map helper_name (procs before)) None (Some callee) k)) (b.takes callee n t));
      declared = λ x h. Contains-append_right (name ∷ []) (map name_of b.above) x (b.declared x (subst (λ (xs : List Name). Contains xs x) same h));
      called = λ x h. one_more_called (procs before) item b.above x b.called (subst (λ (xs : List Item). Contains (map name_of xs) x) longer h);
      few_helpers = b.few_helpers;
      few_entries = omega arith;
      apart = apart_more before item b.above name same longer b.apart b.declared (λ h. b.clean b.place Repeated (inl (inl (refl, refl, h)))) refl;
      count = let l : length (procs (before ++ item ∷ [])) ≡ length (procs before ++ item ∷ []) = ap length longer in omega arith;
      asked = g.asked ∙ sym same;
      names = g.names ∙ sym (ap (map name_of) longer);
      helpers = g.helpers ∙ sym (ap (map helper_name) longer);
      numbered = g.numbered;
      long = g.long ∙ sym (ap length longer);
      tells = g.tells;
    }

-- one more item
pub built_more : (program before : List Item) (item : Item) (rest : List Item) (old new : Tables) → Built program before (item ∷ rest) old → Adds old item new → Built program (before ++ item ∷ []) rest new
built_more program before (outside name arity) rest old new b adds = built_outside program before name arity rest old new b adds
built_more program before (helper name params body) rest old new b adds = built_helper program before name params body rest old new b (item_next program before (helper name params body) rest old b) adds
built_more program before (entry name params body) rest old new b adds = built_entry program before name params body rest old new b (item_next program before (entry name params body) rest old b) adds

-- over the items that a program holds

from_item : (xs : List declared.Item) (i : ℕ) (x : declared.Item) → i < length xs → x ≡ get_or xs i x → items_of (drop i xs) ≡ item_of x ∷ items_of (drop (i + 1) xs)
from_item xs i x h is = let tail : drop i xs ≡ x ∷ drop (i + 1) xs = rw (add-one, drop-cons xs i x, ← is) refl in ap items_of tail

up_to_item : (xs : List declared.Item) (i : ℕ) (x : declared.Item) → i < length xs → x ≡ get_or xs i x → items_of (take (i + 1) xs) ≡ items_of (take i xs) ++ item_of x ∷ []
up_to_item xs i x h is = ap items_of (take_one_more xs i x h is) ∙ map-append item_of (take i xs) (x ∷ [])

pub next_at : (program : List Item) (xs : List declared.Item) (i : ℕ) (x : declared.Item) (tables : Tables) → i < length xs → x ≡ get_or xs i x →
    Built program (items_of (take i xs)) (items_of (drop i xs)) tables → IsNext tables (item_of x)
next_at program xs i x tables h is b =
    item_next program (items_of (take i xs)) (item_of x) (items_of (drop (i + 1) xs)) tables
    (subst (λ (rest : List Item). Built program (items_of (take i xs)) rest tables) (from_item xs i x h is) b)

pub more_at : (program : List Item) (xs : List declared.Item) (i : ℕ) (x : declared.Item) (old new : Tables) → i < length xs → x ≡ get_or xs i x →
    Built program (items_of (take i xs)) (items_of (drop i xs)) old → Adds old (item_of x) new → Built program (items_of (take (i + 1) xs)) (items_of (drop (i + 1) xs)) new
more_at program xs i x old new h is b adds =
    rw (up_to_item xs i x h is)
    (built_more program (items_of (take i xs)) (item_of x) (items_of (drop (i + 1) xs)) old new
    (subst (λ (rest : List Item). Built program (items_of (take i xs)) rest old) (from_item xs i x h is) b) adds)

drop-all : {X : Type 0} (xs : List X) (i : ℕ) → length xs ≤ i → drop i xs ≡ []
drop-all [] zero h = refl
drop-all [] (suc i) h = refl
drop-all (x ∷ xs) zero h = absurd (omega arith)
drop-all (x ∷ xs) (suc i) h = drop-all xs i (omega (arith, h))

pub end_at : (program : List Item) (xs : List declared.Item) (i : ℕ) (tables : Tables) → length xs ≤ i → Built program (items_of (take i xs)) (items_of (drop i xs)) tables → AreTables program tables
end_at program xs i tables h b =
    let none : drop i xs ≡ [] = drop-all xs i h in
    built_end program (items_of (take i xs)) tables (subst (λ (rest : List Item). Built program (items_of (take i xs)) rest tables) (ap items_of none) b)
