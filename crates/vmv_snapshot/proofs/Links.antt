-- Calls of the resolved statements are the calls of the program.
use Rattle.std.proofs.Common.{◌≡◌, ◌⊎◌, inl, inr, ⊎_elim, ◌↔◌, ℕ, zero, suc, ◌+◌, ◌<◌, ◌≤◌, Option, Some, None, List, [], ◌∷◌, ◌++◌, length, map, slice_get, refl, sym, ap, subst, arith, ◌∙◌, length-append}
use Rattle.std.specs.List.{Contains, slice_index}
use Rattle.std.specs.Option.{option_map}
use Rattle.std.proofs.lemmas.Option.{slice_get-map, slice_get_within}
use Rattle.std.proofs.lemmas.List.{map-append}
use Rattle.std.proofs.lemmas.List.Elements.{Contains-append_left}
use Rattle.vmv_tree.specs.declared.name.Name.{Name}
use Rattle.vmv_tree.specs.declared.tree.Param.{Param}
use Rattle.vmv_tree.specs.Tree.{Stmt, copy, compute, call, assert, choose, repeat, Block, [], ◌⨾◌, Body, Item, outside, helper, entry}
use Rattle.vmv_tree.specs.Run.{name_of, sites, block_sites}
use Rattle.vmv_snapshot.specs.declared.code.Simple.TheVariants.{Set, Arith, Ask, Assert}
use Rattle.vmv_snapshot.specs.Code.{Stmt as CodeStmt, plain, help, branch, loop, Block as CodeBlock, [], ◌⨾◌, Body as CodeBody}
use Rattle.vmv_snapshot.specs.Procs.{procs, outsides, helper_name}
use Rattle.vmv_snapshot.specs.Resolves.{Scope, Resolves, ResolvesAll, ResolvesBody, ResolvesItem, scope_of, IsCode}
use Rattle.vmv_snapshot.specs.Reaches.{Calls, BlockCalls, ItemCalls, ProcCalls, IsChain, Reaches}
use Rattle.vmv_snapshot.specs.Tables.{AreOnce}
use Rattle.vmv_snapshot.specs.Rows.{Helps, BlockHelps}
use Rattle.vmv_snapshot.proofs.Lookups.{at_contains}
use Rattle.vmv_snapshot.proofs.Ready.{behind}
use Rattle.vmv_snapshot.proofs.Build.{procs-append, outsides-append}

-- a call of this helper, in the statements as the program has them
abbrev CalledBy : Scope → (Name → Type 0) → ℕ → Type 0
CalledBy scope Called c = (name : Name) × Called name × (slice_get scope.helpers c ≡ Some (Some name))

mutual
  unfolding Resolves

  stmt_called : (scope : Scope) (k : ℕ) (s : Stmt) (d : CodeStmt) → Resolves scope k s d → (c : ℕ) → Helps d c → CalledBy scope (Calls s) c
  stmt_called scope k s (plain simple) r c h = absurd h
  stmt_called scope k (call to callee args) (help slot proc codes) r c h = (callee, refl, subst (λ n. slice_get scope.helpers n ≡ Some (Some callee)) h r.1)
  stmt_called scope k (choose test first second) (branch code one other) r c h =
      ⊎_elim (λ (g : BlockHelps one c). let t = block_called scope k first one r.1 c g in (t.0, inl t.1, t.2))
      (λ (g : BlockHelps other c). let t = block_called scope (k + block_sites first) second other r.2 c g in (t.0, inr t.1, t.2)) h
  stmt_called scope k (repeat index bound most body) (loop slot next code same site inside) r c h = block_called scope (k + 1) body inside r.6 c h
  stmt_called scope k s d r c h = absurd r

  block_called : (scope : Scope) (k : ℕ) (b : Block) (d : CodeBlock) → ResolvesAll scope k b d → (c : ℕ) → BlockHelps d c → CalledBy scope (BlockCalls b) c
  block_called scope k [] [] r c h = absurd h
  block_called scope k (s ⨾ rest) (d ⨾ codes) r c h =
      ⊎_elim (λ (g : Helps d c). let t = stmt_called scope k s d r.0 c g in (t.0, inl t.1, t.2))
      (λ (g : BlockHelps codes c). let t = block_called scope (k + sites s) rest codes r.1 c g in (t.0, inr t.1, t.2)) h
  block_called scope k b d r c h = absurd r

-- a helper that is called, in the resolved statements
abbrev HelpedBy : Scope → (ℕ → Type 0) → Name → Type 0
HelpedBy scope Helped name = (c : ℕ) × Helped c × (slice_get scope.helpers c ≡ Some (Some name))

mutual
  unfolding Resolves

  stmt_helped : (scope : Scope) (k : ℕ) (s : Stmt) (d : CodeStmt) → Resolves scope k s d → (name : Name) → (Contains scope.outsides name → ⊥) → Calls s name → HelpedBy scope (Helps d) name
  stmt_helped scope k (copy to from) d r name inside h = absurd h
  stmt_helped scope k (compute to op left right) d r name inside h = absurd h
  stmt_helped scope k (assert test) d r name inside h = absurd h
  stmt_helped scope k (call to callee args) (plain (Ask slot same codes)) r name inside h = absurd (inside (subst (Contains scope.outsides) h r.2))
  stmt_helped scope k (call to callee args) (help slot proc codes) r name inside h = (proc.0, refl, subst (λ x. slice_get scope.helpers proc.0 ≡ Some (Some x)) h r.1)
  stmt_helped scope k (choose test first second) (branch code one other) r name inside h =
      ⊎_elim (λ (g : BlockCalls first name). let t = block_helped scope k first one r.1 name inside g in (t.0, inl t.1, t.2))
      (λ (g : BlockCalls second name). let t = block_helped scope (k + block_sites first) second other r.2 name inside g in (t.0, inr t.1, t.2)) h
  stmt_helped scope k (repeat index bound most body) (loop slot next code same site codes) r name inside h = block_helped scope (k + 1) body codes r.6 name inside h
  stmt_helped scope k s d r name inside h = absurd r

  block_helped : (scope : Scope) (k : ℕ) (b : Block) (d : CodeBlock) → ResolvesAll scope k b d → (name : Name) → (Contains scope.outsides name → ⊥) → BlockCalls b name → HelpedBy scope (BlockHelps d) name
  block_helped scope k [] [] r name inside h = absurd h
  block_helped scope k (s ⨾ rest) (d ⨾ codes) r name inside h =
      ⊎_elim (λ (g : Calls s name). let t = stmt_helped scope k s d r.0 name inside g in (t.0, inl t.1, t.2))
      (λ (g : BlockCalls rest name). let t = block_helped scope (k + sites s) rest codes r.1 name inside g in (t.0, inr t.1, t.2)) h
  block_helped scope k b d r name inside h = absurd r

-- the item that a place of its names is of
pub map_at : {A B : Type 0} (f : A → B) (xs : List A) (n : ℕ) (y : B) → slice_get (map f xs) n ≡ Some y → (x : A) × (slice_get xs n ≡ Some x) × (f x ≡ y)
map_at f [] n y e = absurd (cc)
map_at f (x ∷ xs) zero y e = (x, refl, cc)
map_at f (x ∷ xs) (suc n) y e = map_at f xs n y e

named_helper : (item : Item) (name : Name) → helper_name item ≡ Some name → name_of item ≡ name
named_helper (outside f arity) name e = absurd (cc)
named_helper (helper f params body) name e = cc
named_helper (entry f params body) name e = absurd (cc)

before_more : {X : Type 0} (xs ys : List X) (n : ℕ) (x : X) → slice_get xs n ≡ Some x → slice_get (xs ++ ys) n ≡ Some x
before_more [] ys n x e = absurd (cc)
before_more (y ∷ xs) ys zero x e = e
before_more (y ∷ xs) ys (suc n) x e = before_more xs ys n x e

-- the resolved item and its code
record Linked (program : List Item) (p : ℕ) (item : Item) (before : List Item) (code : CodeBody) : Type 0 where
  place : slice_get (procs program) p ≡ Some item
  helpers : (c : ℕ) (x : Item) → slice_get (procs before) c ≡ Some x → slice_get (procs program) c ≡ Some x
  asked : (x : Name) → Contains (outsides before) x → Contains (outsides program) x
  called : (c : ℕ) → BlockHelps code.block c → (name : Name) × ItemCalls item name × (slice_get (map helper_name (procs before)) c ≡ Some (Some name))
  helped : (name : Name) → (Contains (outsides before) name → ⊥) → ItemCalls item name → (c : ℕ) × BlockHelps code.block c × (slice_get (map helper_name (procs before)) c ≡ Some (Some name))

linked : (program : List Item) (p : ℕ) (code : CodeBody) (before : List Item) (item : Item) (after : List Item) → program ≡ before ++ item ∷ after → length (procs before) ≡ p →
    ResolvesItem before item code → Linked program p item before code
linked program p code before (outside f arity) after parts place r = absurd r
linked program p code before (helper f params body) after parts place r =
    let all : procs program ≡ procs before ++ helper f params body ∷ procs after = ap procs parts ∙ procs-append before (helper f params body ∷ after) in
    record {
      place = ap (λ (xs : List Item). slice_get xs p) all ∙ behind (procs before) (helper f params body ∷ procs after) 0 p (omega arith);
      helpers = λ c x e. ap (λ (xs : List Item). slice_get xs c) all ∙ before_more (procs before) (helper f params body ∷ procs after) c x e;
      asked = λ x h. subst (λ (xs : List Name). Contains xs x) (sym (ap outsides parts ∙ outsides-append before (helper f params body ∷ after))) (Contains-append_left (outsides before) (outsides after) x h);
      called = block_called (scope_of before params body) 0 body.block code.block r.statements;
      helped = block_helped (scope_of before params body) 0 body.block code.block r.statements;
    }
linked program p code before (entry f params body) after parts place r =
    let all : procs program ≡ procs before ++ entry f params body ∷ procs after = ap procs parts ∙ procs-append before (entry f params body ∷ after) in
    record {
      place = ap (λ (xs : List Item). slice_get xs p) all ∙ behind (procs before) (entry f params body ∷ procs after) 0 p (omega arith);
      helpers = λ c x e. ap (λ (xs : List Item). slice_get xs c) all ∙ before_more (procs before) (entry f params body ∷ procs after) c x e;
      asked = λ x h. subst (λ (xs : List Name). Contains xs x) (sym (ap outsides parts ∙ outsides-append before (entry f params body ∷ after))) (Contains-append_left (outsides before) (outsides after) x h);
      called = block_called (scope_of before (map (λ p. p.name) params) body) 0 body.block code.block r.statements;
      helped = block_helped (scope_of before (map (λ p. p.name) params) body) 0 body.block code.block r.statements;
    }

-- a called helper stands before, and the program has the call
pub helps_call : (program : List Item) (p : ℕ) (code : CodeBody) → IsCode program p code → (c : ℕ) → BlockHelps code.block c → ProcCalls program p c × (c < p)
helps_call program p code is c h =
    let l = linked program p code is.before is.item is.after is.parts is.place is.resolves in
    let t = l.called c h in
    let at = map_at helper_name (procs is.before) c (Some t.0) t.2 in
    let own : name_of at.0 ≡ t.0 = named_helper at.0 t.0 at.2 in
    let within = slice_get_within (procs is.before) c at.0 at.1 in
    let place = is.place in
    ((is.item, at.0, l.place, l.helpers c at.0 at.1, subst (ItemCalls is.item) (sym own) t.1), omega arith)

some_same : {X : Type 0} {x y : X} → Some x ≡ Some y → x ≡ y
some_same e = cc

-- a call of the program is one of the resolved statements
pub call_helps : (program : List Item) (p : ℕ) (code : CodeBody) → IsCode program p code → AreOnce (map name_of (procs program)) →
    ((x : Name) → Contains (outsides program) x → Contains (map name_of (procs program)) x → ⊥) → (c : ℕ) → ProcCalls program p c → BlockHelps code.block c
call_helps program p code is once apart c (caller, callee, from, to, calls) =
    let l = linked program p code is.before is.item is.after is.parts is.place is.resolves in
    let same : caller ≡ is.item = some_same (sym from ∙ l.place) in
    let named : slice_get (map name_of (procs program)) c ≡ Some (name_of callee) = slice_get-map name_of (procs program) c ∙ ap (option_map name_of) to in
    let inside : Contains (outsides is.before) (name_of callee) → ⊥ = λ h. apart (name_of callee) (l.asked (name_of callee) h) (at_contains (map name_of (procs program)) c (name_of callee) named) in
    let t = l.helped (name_of callee) inside (subst (λ (x : Item). ItemCalls x (name_of callee)) same calls) in
    let at = map_at helper_name (procs is.before) t.0 (Some (name_of callee)) t.2 in
    let own : name_of at.0 ≡ name_of callee = named_helper at.0 (name_of callee) at.2 in
    let there : slice_get (map name_of (procs program)) t.0 ≡ Some (name_of callee) =
    slice_get-map name_of (procs program) t.0 ∙ (ap (option_map name_of) (l.helpers t.0 at.0 at.1) ∙ ap (λ (x : Name). Some x) own) in
    subst (BlockHelps code.block) (once t.0 c (name_of callee) there named) t.1
