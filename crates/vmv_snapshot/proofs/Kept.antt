-- What a snapshot tells by what it keeps.
use Rattle.std.proofs.Common.{◌≡◌, ◌⊎◌, inl, inr, ⊎_elim, ◌↔◌, ℕ, zero, suc, ◌+◌, ◌<◌, ◌≤◌, Option, Some, None, IsSome, IsTrue, nat_eq, bit_and, ◌/◌, ◌^◌, List, [], ◌∷◌, length, map, slice_get, get_or, refl, sym, ap, subst, arith, ◌∙◌}
use Rattle.std.specs.List.{Contains, slice_index, position}
use Rattle.std.specs.Option.{option_map}
use Rattle.std.proofs.lemmas.Option.{slice_get-map, slice_get_read, get_or_from_slice_get}
use Rattle.std.proofs.lemmas.Nat.Bits.{shr_and_one}
use Rattle.std.proofs.lemmas.Bool.{eqb-true, eq-eqb}
use Rattle.std.proofs.lemmas.List.{length-map}
use Rattle.vmv_tree.specs.declared.name.Name.{Name}
use Rattle.vmv_tree.specs.declared.tree.Program.{Program}
use Rattle.vmv_tree.specs.Tree.{Item}
use Rattle.vmv_tree.specs.Run.{name_of}
use Rattle.vmv_tree.specs.View.{program_of}
use Rattle.vmv_tree.specs.Valid.{Valid}
use Rattle.vmv_snapshot.specs.declared.code.Code.{Code}
use Rattle.vmv_snapshot.specs.declared.tables.Proc.{Proc}
use Rattle.vmv_snapshot.specs.declared.tables.Tables.{Tables}
use Rattle.vmv_snapshot.specs.View.{code_of}
use Rattle.vmv_snapshot.specs.Procs.{procs, outsides, params_of, is_entry}
use Rattle.vmv_snapshot.specs.Resolves.{IsCode}
use Rattle.vmv_snapshot.specs.Reaches.{ProcCalls, IsChain, Reaches}
use Rattle.vmv_snapshot.specs.Tables.{AreOnce, body_sites, Tells, AreTables}
use Rattle.vmv_snapshot.specs.Rows.{IsIn, BlockHelps, AreRows}
use Rattle.vmv_snapshot.specs.Resolution.{Resolution, tree_of, procs_of, IsResolution, IsKept}
use Rattle.vmv_snapshot.proofs.NameEq.{name_eq, name_eq-same, name_eq-refl}
use Rattle.vmv_snapshot.proofs.Lookups.{contains_at, at_contains, position_found, position_none}
use Rattle.vmv_snapshot.proofs.Links.{helps_call, call_helps, map_at}

at_index : {X : Type 0} (xs : List X) (p : ℕ) → p < length xs → (x : X) × (slice_get xs p ≡ Some x)
at_index [] p h = absurd (omega arith)
at_index (x ∷ xs) zero h = (x, refl)
at_index (x ∷ xs) (suc p) h = at_index xs p (omega (arith, h))

Known : List Item → Tables → List ℕ → ℕ → ℕ → Type 0
Known program tables rows p n = IsIn (slice_index rows p) n ↔ Reaches program p n

chain_here : (program : List Item) (p n : ℕ) → n ≡ p → Reaches program p n
chain_here program p n e = ([], sym e)

chain_on : (program : List Item) (p c n : ℕ) → ProcCalls program p c → Reaches program c n → Reaches program p n
chain_on program p c n calls (chain, h) = (c ∷ chain, (calls, h))

by_chain : (program : List Item) (p n : ℕ) (P : ℕ → Type 0) → ((c : ℕ) → ProcCalls program p c → Reaches program c n → P c) → (chain : List ℕ) → IsChain program p chain n → (n ≡ p) ⊎ ((c : ℕ) × P c)
by_chain program p n P f [] h = inl (sym h)
by_chain program p n P f (c ∷ chain) h = inr (c, f c h.0 (chain, h.1))

flat_through : (proc : Proc) (rows : List ℕ) (p n : ℕ) → ((n ≡ p) ⊎ ((c : ℕ) × ((c < p) × BlockHelps (code_of proc.code).block c × IsIn (slice_index rows c) n))) →
    (n ≡ p) ⊎ ((callee : ℕ) × (callee < p) × BlockHelps (code_of proc.code).block callee × IsIn (slice_index rows callee) n)
flat_through proc rows p n (inl e) = inl e
flat_through proc rows p n (inr (c, g)) = inr (c, g.0, g.1, g.2)

-- a row for the procedure, where the rows of those before it are right
row_known : (program : List Item) (tables : Tables) (rows : List ℕ) → AreTables program tables → AreRows tables.procs.items rows → (p n : ℕ) → p < length tables.procs.items →
    ((c : ℕ) → c < p → Known program tables rows c n) → Known program tables rows p n
unfolding Known
row_known program tables rows is right p n within before =
    let at = at_index tables.procs.items p within in
    let code : IsCode program p (code_of at.0.code) = (is.tells p at.0 at.1).code in
    let row = right.reached p at.0 at.1 n in
    let once : AreOnce (map name_of (procs program)) = subst AreOnce is.names is.numbered.once in (
      λ h. ⊎_elim (λ (e : n ≡ p). chain_here program p n e)
          (λ (g : (callee : ℕ) × (callee < p) × BlockHelps (code_of at.0.code).block callee × IsIn (slice_index rows callee) n).
          chain_on program p g.0 n (helps_call program p (code_of at.0.code) code g.0 g.2).0 ((before g.0 g.1).0 g.3))
          (row.0 h),
      λ (chain, h). row.1 (flat_through at.0 rows p n (by_chain program p n (λ c. (c < p) × BlockHelps (code_of at.0.code).block c × IsIn (slice_index rows c) n)
          (λ c calls rest.
          let called = call_helps program p (code_of at.0.code) code once is.apart c calls in
          let less = (helps_call program p (code_of at.0.code) code c called).1 in
          (less, called, (before c less).1 rest))
          chain h)),
    )

known_below : (program : List Item) (tables : Tables) (rows : List ℕ) → AreTables program tables → AreRows tables.procs.items rows → (fuel p n : ℕ) → p < fuel → p < length tables.procs.items →
    Known program tables rows p n
known_below program tables rows is right zero p n h within = absurd (omega arith)
known_below program tables rows is right (suc fuel) p n h within =
    row_known program tables rows is right p n within (λ c less. known_below program tables rows is right fuel c n (omega (arith, h, less)) (omega (arith, less, within)))

-- the rows tell what is reached
pub reach_known : (program : List Item) (tables : Tables) (rows : List ℕ) → AreTables program tables → AreRows tables.procs.items rows → (p n : ℕ) → p < length tables.procs.items →
    IsIn (slice_index rows p) n ↔ Reaches program p n
unfolding Known
reach_known program tables rows is right p n within = known_below program tables rows is right (p + 1) p n (omega arith) within

pub resolution : (program : Program) (tables : Tables) (rows : List ℕ) → IsKept program tables rows → IsResolution (record { program = program; codes = map (λ p. p.code) tables.procs.items })
resolution program tables rows kept = record {
  valid = kept.valid;
  count = length-map tables.procs.items (λ p. p.code) ∙ kept.resolved.count;
  resolves = λ n code e.
      let at = map_at (λ (p : Proc). p.code) tables.procs.items n code e in
      subst (λ (x : Code). IsCode (program_of program) n (code_of x)) at.2 (kept.resolved.tells n at.0 at.1).code;
}

told : {X : Type 0} (program : List Item) (f : Item → X) (n : ℕ) (item : Item) (x : X) → slice_get (procs program) n ≡ Some item → x ≡ f item → slice_get (map f (procs program)) n ≡ Some x
told program f n item x place e = slice_get-map f (procs program) n ∙ (ap (option_map f) place ∙ ap (λ y. Some y) (sym e))

-- what is told of a procedure
pub record Told (program : List Item) (n : ℕ) (proc : Proc) : Type 0 where
  pub name : slice_get (map name_of (procs program)) n ≡ Some proc.name
  pub entry : slice_get (map is_entry (procs program)) n ≡ Some proc.entry
  pub params : slice_get (map params_of (procs program)) n ≡ Some proc.params
  pub sites : slice_get (map body_sites (procs program)) n ≡ Some proc.sites
  pub code : IsCode program n (code_of proc.code)

pub told_at : (program : Program) (tables : Tables) (rows : List ℕ) → IsKept program tables rows → (n : ℕ) (proc : Proc) → slice_get tables.procs.items n ≡ Some proc → Told (program_of program) n proc
told_at program tables rows kept n proc at =
    let t = kept.resolved.tells n proc at in
    let items : List Item = program_of program in
    record {
      name = told items name_of n t.item proc.name t.place t.name;
      entry = told items is_entry n t.item proc.entry t.place t.entry;
      params = told items params_of n t.item proc.params t.place t.params;
      sites = told items body_sites n t.item proc.sites t.place t.sites;
      code = t.code;
    }

pub found_name : (program : Program) (tables : Tables) (rows : List ℕ) → IsKept program tables rows → (name : Name) (i : ℕ) → Some i ≡ position (name_eq name) tables.names.keys →
    slice_get (map name_of (procs (program_of program))) i ≡ Some name
found_name program tables rows kept name i e =
    let first = position_found (name_eq name) tables.names.keys i (sym e) in
    let same : first.0 ≡ name = sym (name_eq-same name first.0 first.2) in
    ap (λ (xs : List Name). slice_get xs i) (sym kept.resolved.names) ∙ (first.1 ∙ ap (λ (x : Name). Some x) same)

pub no_name : (program : Program) (tables : Tables) (rows : List ℕ) → IsKept program tables rows → (name : Name) → None ≡ position (name_eq name) tables.names.keys →
    Contains (map name_of (procs (program_of program))) name → ⊥
no_name program tables rows kept name e h =
    let at = contains_at tables.names.keys name (subst (λ (xs : List Name). Contains xs name) (sym kept.resolved.names) h) in
    let differs = position_none (name_eq name) tables.names.keys (sym e) at.0 name at.1 in
    let same = name_eq-refl name in
    cc

-- by what a contract sees
pub told_of : (s : Resolution) (program : Program) (tables : Tables) (rows : List ℕ) → IsKept program tables rows → ◌≡◌ {A = Resolution} (record { program = program; codes = map (λ p. p.code) tables.procs.items }) s →
    (n : ℕ) → n < length (procs_of s) → (proc : Proc) → proc ≡ get_or tables.procs.items n proc → Told (tree_of s) n proc
told_of s program tables rows kept is n within proc at =
    let less : n < length (procs (program_of program)) = subst (λ (x : Resolution). n < length (procs_of x)) (sym is) within in
    let count = kept.resolved.count in
    let here : slice_get tables.procs.items n ≡ Some proc = slice_get_read tables.procs.items (length tables.procs.items) n proc refl (omega arith) at in
    subst (λ (x : Resolution). Told (tree_of x) n proc) is (told_at program tables rows kept n proc here)

pub row_within : (s : Resolution) (program : Program) (tables : Tables) (rows : List ℕ) → IsKept program tables rows → ◌≡◌ {A = Resolution} (record { program = program; codes = map (λ p. p.code) tables.procs.items }) s →
    (n : ℕ) → n < length (procs_of s) → n < length rows
row_within s program tables rows kept is n within =
    let less : n < length (procs (program_of program)) = subst (λ (x : Resolution). n < length (procs_of x)) (sym is) within in
    let count = kept.resolved.count in
    let long = kept.rows in
    omega arith

-- the bit that is looked at tells what is reached
pub reached_of : (s : Resolution) (program : Program) (tables : Tables) (rows : List ℕ) → IsKept program tables rows → ◌≡◌ {A = Resolution} (record { program = program; codes = map (λ p. p.code) tables.procs.items }) s →
    (p n row : ℕ) → p < length (procs_of s) → row ≡ get_or rows p row → IsTrue (nat_eq (bit_and (row / 2 ^ n) 1) 1) ↔ Reaches (tree_of s) p n
reached_of s program tables rows kept is p n row within at =
    let long : p < length rows = row_within s program tables rows kept is p within in
    let count = kept.rows in
    let value : slice_index rows p ≡ row = get_or_from_slice_get rows p row 0 (slice_get_read rows (length rows) p row refl long at) in
    let known : IsIn row n ↔ Reaches (program_of program) p n = subst (λ x. IsIn x n ↔ Reaches (program_of program) p n) value (kept.reached p n (omega arith)) in
    subst (λ (x : Resolution). IsTrue (nat_eq (bit_and (row / 2 ^ n) 1) 1) ↔ Reaches (tree_of x) p n) is
    (λ h. known.0 (sym (shr_and_one row n) ∙ eqb-true _ 1 h), λ h. eq-eqb _ 1 (shr_and_one row n ∙ known.1 h))

pub name_of_found : (s : Resolution) (program : Program) (tables : Tables) (rows : List ℕ) → IsKept program tables rows → ◌≡◌ {A = Resolution} (record { program = program; codes = map (λ p. p.code) tables.procs.items }) s →
    (name : Name) (i : ℕ) → Some i ≡ position (name_eq name) tables.names.keys → slice_get (map name_of (procs_of s)) i ≡ Some name
name_of_found s program tables rows kept is name i e = subst (λ (x : Resolution). slice_get (map name_of (procs_of x)) i ≡ Some name) is (found_name program tables rows kept name i e)

pub found_exactly : (s : Resolution) (program : Program) (tables : Tables) (rows : List ℕ) → IsKept program tables rows → ◌≡◌ {A = Resolution} (record { program = program; codes = map (λ p. p.code) tables.procs.items }) s →
    (name : Name) (i : ℕ) → Some i ≡ position (name_eq name) tables.names.keys → Contains (map name_of (procs_of s)) name
found_exactly s program tables rows kept is name i e = at_contains (map name_of (procs_of s)) i name (name_of_found s program tables rows kept is name i e)

pub none_exactly : (s : Resolution) (program : Program) (tables : Tables) (rows : List ℕ) → IsKept program tables rows → ◌≡◌ {A = Resolution} (record { program = program; codes = map (λ p. p.code) tables.procs.items }) s →
    (name : Name) {X : Type 0} (result : Option X) → result ≡ None → None ≡ position (name_eq name) tables.names.keys → IsSome result ↔ Contains (map name_of (procs_of s)) name
none_exactly s program tables rows kept is name (Some x) gone e = absurd (cc)
none_exactly s program tables rows kept is name None gone e = (
  λ h. absurd (cc),
  λ h. absurd (no_name program tables rows kept name e (subst (λ (x : Resolution). Contains (map name_of (procs_of x)) name) (sym is) h)),
)

pub kept_of : (program : Program) (tables : Tables) (rows : List ℕ) → Valid (program_of program) → AreTables (program_of program) tables → AreRows tables.procs.items rows → IsKept program tables rows
kept_of program tables rows valid is right = record { valid = valid; resolved = is; rows = right.count; reached = λ p n within. reach_known (program_of program) tables rows is right p n within }
