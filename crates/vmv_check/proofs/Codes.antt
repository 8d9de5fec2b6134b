-- What is known of the code of a procedure, so that it can be walked through.
use Rattle.std.proofs.Common.{◌≡◌, inl, inr, ℕ, zero, suc, ◌+◌, ◌≤◌, Option, Some, None, List, [], ◌∷◌, ◌++◌, length, map, slice_get, refl, sym, ap, subst, arith, ◌∙◌}
use Rattle.std.specs.Option.{option_map}
use Rattle.std.proofs.lemmas.Option.{slice_get-map}
use Rattle.std.proofs.lemmas.List.{length-map}
use Rattle.std.proofs.lemmas.Slice.Zip.{AllZip-long}
use Rattle.vmv_tree.specs.declared.name.Name.{Name}
use Rattle.vmv_tree.specs.declared.tree.Operand.{Operand}
use Rattle.vmv_tree.specs.declared.tree.Operand.TheVariants.{Lit, Var}
use Rattle.vmv_tree.specs.declared.tree.Param.{Param}
use Rattle.vmv_tree.specs.Tree.{Stmt, copy, compute, call, assert, choose, repeat, Block, [], ◌⨾◌, Body, Item, outside, helper, entry}
use Rattle.vmv_tree.specs.Run.{sites, block_sites}
use Rattle.vmv_tree.specs.Mentions.{operand_mentions, test_mentions, mentions, block_mentions}
use Rattle.vmv_tree.specs.Limits.{indexes_of, block_indexes, statements as tree_statements, block_statements as tree_block_statements}
use Rattle.vmv_tree.specs.Valid.{Scope as Sight, InCallee, InStmt, InBlock}
use Rattle.vmv_snapshot.specs.declared.code.CodeOperand.{CodeOperand}
use Rattle.vmv_snapshot.specs.declared.code.CodeOperand.TheVariants.{Lit, Var}
use Rattle.vmv_snapshot.specs.declared.code.CodeTest.{CodeTest}
use Rattle.vmv_tree.specs.declared.tree.Test.{Test}
use Rattle.vmv_snapshot.specs.declared.code.Simple.TheVariants.{Set, Arith, Ask, Assert}
use Rattle.vmv_snapshot.specs.declared.code.ProcId.{ProcId}
use Rattle.vmv_snapshot.specs.declared.code.Code.{Code}
use Rattle.vmv_snapshot.specs.Code.{Stmt as CodeStmt, plain, help, branch, loop, Block as CodeBlock, [], ◌⨾◌, Body as CodeBody}
use Rattle.vmv_snapshot.specs.View.{code_of}
use Rattle.vmv_snapshot.specs.Procs.{procs, helper_name, params_of, any_word}
use Rattle.vmv_snapshot.specs.Resolves.{Scope, Resolves, ResolvesAll, ResolvesOperand, ResolvesTest, ResolvesArgs, ResolvesBody, ResolvesItem, scope_of, IsCode}
use Rattle.vmv_snapshot.specs.Resolution.{Resolution, tree_of, procs_of, IsResolution}
use Rattle.vmv_snapshot.proofs.Known.{Clean}
use Rattle.vmv_snapshot.proofs.Build.{procs-append}
use Rattle.vmv_snapshot.proofs.Links.{map_at}
use Rattle.vmv_step.specs.Zones.{IsInside, IsTestInside, AreInside}
use Rattle.vmv_step.specs.Agree.{AreSlots, AreSlotsOf}
use Rattle.vmv_step.proofs.Procedures.{stands, slots_of, has_room}
use Rattle.vmv_cert.specs.Sizes.{statements, block_statements}
use Rattle.vmv_check.specs.Walker.{HasParams, IsReady, AreReady}
use Rattle.vmv_check.proofs.Lists.{some_same, within, item_at}
use Rattle.vmv_check.proofs.Above.{onto, AreDistinct, Split, split, right_count, few_statements}

-- a slot but for slot 0 is a variable
off_origin : {X : Type 0} (slots : List (Option X)) (n : ℕ) (x : X) → slice_get slots 0 ≡ Some None → slice_get slots n ≡ Some (Some x) → 1 ≤ n
off_origin slots zero x origin e = absurd (cc)
off_origin slots (suc n) x origin e = omega arith

named_inside : (vars : ℕ) (slots : List (Option Name)) (n : ℕ) (x : Name) → AreSlots vars slots → slice_get slots n ≡ Some (Some x) → (1 ≤ n) × (n ≤ vars)
named_inside vars slots n x are e =
    let h = within slots n (Some x) e in
    let c = are.count in
    (off_origin slots n x are.origin e, omega arith)

unnamed_inside : (vars : ℕ) (slots : List (Option Name)) (n m : ℕ) → AreSlots vars slots → m ≡ n + 1 → slice_get slots m ≡ Some None → (1 ≤ m) × (m ≤ vars)
unnamed_inside vars slots n m are next e =
    let h = within slots m None e in
    let c = are.count in
    (omega arith, omega arith)

operand_inside : (vars : ℕ) (scope : Scope) (o : Operand) (c : CodeOperand) → AreSlots vars scope.slots → ResolvesOperand scope o c → IsInside vars c
operand_inside vars scope (Lit w) (Lit u) are r = tt
operand_inside vars scope (Lit w) (Var n) are r = absurd r
operand_inside vars scope (Var x) (Lit u) are r = absurd r
operand_inside vars scope (Var x) (Var n) are r = named_inside vars scope.slots n.0 x are r

test_inside : (vars : ℕ) (scope : Scope) (t : Test) (c : CodeTest) → AreSlots vars scope.slots → ResolvesTest scope t c → IsTestInside vars c
test_inside vars scope t c are r = (operand_inside vars scope t.left c.left are r.0, operand_inside vars scope t.right c.right are r.2)

args_inside : (vars : ℕ) (scope : Scope) (args : List Operand) (codes : List CodeOperand) → AreSlots vars scope.slots → ResolvesArgs scope args codes → AreInside vars codes
args_inside vars scope [] [] are res k d h = absurd (omega arith)
args_inside vars scope [] (c ∷ codes) are res k d h = absurd res
args_inside vars scope (o ∷ args) [] are res k d h = absurd res
args_inside vars scope (o ∷ args) (c ∷ codes) are res zero d h = operand_inside vars scope o c are res.0
args_inside vars scope (o ∷ args) (c ∷ codes) are res (suc k) d h = args_inside vars scope args codes are res.1 k d (omega (arith, h))

helper_item : (item : Item) (callee : Name) → helper_name item ≡ Some callee → (params : List Name) × (body : Body) × (item ≡ helper callee params body)
helper_item (outside f arity) callee e = absurd (cc)
helper_item (helper f params body) callee e = (params, body, ap (λ g. helper g params body) (some_same e))
helper_item (entry f params body) callee e = absurd (cc)

-- how the names of a procedure behind these items are those of the program
record Fits (program : Resolution) (vars : ℕ) (scope : Scope) (front : List Item) : Type 0 where
  slots : AreSlots vars scope.slots
  helpers : scope.helpers ≡ map helper_name (procs front)
  distinct : AreDistinct (onto front [])
  params : (c : ℕ) (callee : Name) (params : List Name) (body : Body) → slice_get (procs front) c ≡ Some (helper callee params body) → HasParams program c (length params) × (length params ≤ 16)

call_ready : (program : Resolution) (vars : ℕ) (scope : Scope) (front : List Item) (sight : Sight) (m : ℕ) (callee : Name) (proc : ProcId) (args : List Operand) (codes : List CodeOperand) → Fits program vars scope front →
    sight.above ≡ onto front [] → slice_get scope.helpers proc.0 ≡ Some (Some callee) → ResolvesArgs scope args codes →
    Clean (InCallee sight m callee (length args)) → HasParams program proc.0 (length codes) × (length codes ≤ 16)
call_ready program vars scope front sight m callee proc args codes fits same at res clean =
    let found = map_at helper_name (procs front) proc.0 (Some callee) (subst (λ xs. slice_get xs proc.0 ≡ Some (Some callee)) fits.helpers at) in
    let it = helper_item found.0 callee found.2 in
    let place : slice_get (procs front) proc.0 ≡ Some (helper callee it.0 it.1) = found.1 ∙ ap (λ x. Some x) it.2 in
    let count : length args ≡ length it.0 = right_count front sight proc.0 m callee it.0 it.1 (length args) same fits.distinct place clean in
    let long : length codes ≡ length args = AllZip-long (ResolvesOperand scope) args codes res in
    subst (λ n. HasParams program proc.0 n × (n ≤ 16)) (sym (long ∙ count)) (fits.params proc.0 callee it.0 it.1 place)

mutual
  unfolding Resolves

  stmt_ready : (program : Resolution) (vars : ℕ) (scope : Scope) (front : List Item) (sight : Sight) (m k : ℕ) (s : Stmt) (c : CodeStmt) → Fits program vars scope front → sight.above ≡ onto front [] →
      Resolves scope k s c → Clean (InStmt sight m s) → IsReady program vars c
  stmt_ready program vars scope front sight m k (copy to from) (plain (Set slot code)) fits same r clean =
      (named_inside vars scope.slots slot.0 to fits.slots r.0, operand_inside vars scope from code fits.slots r.1)
  stmt_ready program vars scope front sight m k (compute to op left right) (plain (Arith slot op' a b site)) fits same r clean =
      (named_inside vars scope.slots slot.0 to fits.slots r.0, operand_inside vars scope left a fits.slots r.2, operand_inside vars scope right b fits.slots r.3)
  stmt_ready program vars scope front sight m k (call to callee args) (plain (Ask slot name codes)) fits same r clean = named_inside vars scope.slots slot.0 to fits.slots r.0
  stmt_ready program vars scope front sight m k (call to callee args) (help slot proc codes) fits same r clean =
      let right = call_ready program vars scope front sight (m + 1) callee proc args codes fits same r.1 r.2 (λ n d h. clean n d (inr (inl h))) in
      (named_inside vars scope.slots slot.0 to fits.slots r.0, right.0, right.1, args_inside vars scope args codes fits.slots r.2)
  stmt_ready program vars scope front sight m k (assert test) (plain (Assert code site)) fits same r clean = test_inside vars scope test code fits.slots r.0
  stmt_ready program vars scope front sight m k (choose test first second) (branch code one other) fits same r clean = (
    test_inside vars scope test code fits.slots r.0,
    block_ready program vars scope front sight (m + test_mentions test) k first one fits same r.1 (λ n d h. clean n d (inr (inl h))),
    block_ready program vars scope front (record sight { declared = sight.declared ++ block_indexes first }) (m + test_mentions test + block_mentions first) (k + block_sites first) second other fits same r.2
        (λ n d h. clean n d (inr (inr h))),
  )
  stmt_ready program vars scope front sight m k (repeat index bound most body) (loop slot next code cap site inside) fits same r clean = (
    named_inside vars scope.slots slot.0 index fits.slots r.0,
    unnamed_inside vars scope.slots slot.0 next.0 fits.slots r.1 r.2,
    operand_inside vars scope bound code fits.slots r.3,
    block_ready program vars scope front (record sight { visible = index ∷ sight.visible; indexes = index ∷ sight.indexes; declared = sight.declared ++ index ∷ [] }) (m + 1 + operand_mentions bound) (k + 1) body inside fits same r.6
        (λ n d h. clean n d (inr (inr h))),
  )
  stmt_ready program vars scope front sight m k s c fits same r clean = absurd r

  block_ready : (program : Resolution) (vars : ℕ) (scope : Scope) (front : List Item) (sight : Sight) (m k : ℕ) (b : Block) (c : CodeBlock) → Fits program vars scope front → sight.above ≡ onto front [] →
      ResolvesAll scope k b c → Clean (InBlock sight m b) → AreReady program vars c
  block_ready program vars scope front sight m k [] [] fits same r clean = tt
  block_ready program vars scope front sight m k (s ⨾ rest) (c ⨾ codes) fits same r clean = (
    stmt_ready program vars scope front sight m k s c fits same r.0 (λ n d h. clean n d (inl h)),
    block_ready program vars scope front (record sight { declared = sight.declared ++ indexes_of s }) (m + mentions s) (k + sites s) rest codes fits same r.1 (λ n d h. clean n d (inr h)),
  )
  block_ready program vars scope front sight m k b c fits same r clean = absurd r

mutual
  unfolding Resolves

  stmt_size : (scope : Scope) (k : ℕ) (s : Stmt) (c : CodeStmt) → Resolves scope k s c → statements c ≡ tree_statements s
  stmt_size scope k (copy to from) (plain code) r = refl
  stmt_size scope k (compute to op left right) (plain code) r = refl
  stmt_size scope k (call to callee args) (plain code) r = refl
  stmt_size scope k (call to callee args) (help slot proc codes) r = refl
  stmt_size scope k (assert test) (plain code) r = refl
  stmt_size scope k (choose test first second) (branch code one other) r =
      let a = block_size scope k first one r.1 in
      let b = block_size scope (k + block_sites first) second other r.2 in
      omega arith
  stmt_size scope k (repeat index bound most body) (loop slot next code cap site inside) r = let a = block_size scope (k + 1) body inside r.6 in omega arith
  stmt_size scope k s c r = absurd r

  block_size : (scope : Scope) (k : ℕ) (b : Block) (c : CodeBlock) → ResolvesAll scope k b c → block_statements c ≡ tree_block_statements b
  block_size scope k [] [] r = refl
  block_size scope k (s ⨾ rest) (c ⨾ codes) r =
      let a = stmt_size scope k s c r.0 in
      let b = block_size scope (k + sites s) rest codes r.1 in
      omega arith
  block_size scope k b c r = absurd r

-- a code that can be walked through
pub record Ready (program : Resolution) (code : CodeBody) : Type 0 where
  pub few : code.vars ≤ 16
  pub block : AreReady program code.vars code.block
  pub steps : block_statements code.block ≤ 2000
  pub output : IsInside code.vars code.output

body_ready : (program : Resolution) (front : List Item) (params : List Name) (body : Body) (code : CodeBody) (sight : Sight) (m : ℕ) → Fits program code.vars (scope_of front params body) front → sight.above ≡ onto front [] →
    ResolvesBody (scope_of front params body) body code → Clean (InBlock sight m body.block) → tree_block_statements body.block ≤ 2000 → Ready program code
body_ready program front params body code sight m fits same r clean few =
    let size = block_size (scope_of front params body) 0 body.block code.block r.statements in
    let s = fits.slots in
    let f = s.few in
    record {
      few = f;
      block = block_ready program code.vars (scope_of front params body) front sight m 0 body.block code.block fits same r.statements clean;
      steps = omega arith;
      output = operand_inside code.vars (scope_of front params body) body.output code.output s r.returned;
    }

before_more : {X : Type 0} (xs ys : List X) (n : ℕ) (x : X) → slice_get xs n ≡ Some x → slice_get (xs ++ ys) n ≡ Some x
before_more [] ys n x e = absurd (cc)
before_more (y ∷ xs) ys zero x e = e
before_more (y ∷ xs) ys (suc n) x e = before_more xs ys n x e

params_at : (program : Resolution) (front : List Item) (item : Item) (after : List Item) → IsResolution program → tree_of program ≡ front ++ item ∷ after → (c : ℕ) (callee : Name) (params : List Name) (body : Body) →
    slice_get (procs front) c ≡ Some (helper callee params body) → HasParams program c (length params) × (length params ≤ 16)
params_at program front item after is parts c callee params body at =
    let here : slice_get (procs_of program) c ≡ Some (helper callee params body) =
    ap (λ (xs : List Item). slice_get xs c) (ap procs parts ∙ procs-append front (item ∷ after)) ∙ before_more (procs front) (procs (item ∷ after)) c (helper callee params body) at in
    let long : length (map any_word params) ≡ length params = length-map params any_word in
    let h = within (procs_of program) c (helper callee params body) here in
    let count = is.count in
    let code = item_at program.codes c (omega arith) in
    let room = has_room (tree_of program) c (code_of code.0) (helper callee params body) is.valid (is.resolves c code.0 code.1) here in
    let few = room.few in
    let r = room.room in (
      slice_get-map (λ (x : Item). length (params_of x)) (procs_of program) c ∙ ap (option_map (λ (x : Item). length (params_of x))) here ∙ ap (λ n. Some n) long,
      omega arith,
    )

item_ready : (program : Resolution) (front : List Item) (item : Item) (after : List Item) (code : CodeBody) → IsResolution program → tree_of program ≡ front ++ item ∷ after → ResolvesItem front item code →
    AreSlotsOf item code.vars → Split (tree_of program) (onto front []) item → Ready program code
item_ready program front (outside f arity) after code is parts r slots at = absurd r
item_ready program front (helper f params body) after code is parts r slots at =
    let names : List Name = params ++ body.vars in
    let clean = at.clean in
    body_ready program front params body code (record { above = onto front []; visible = names; indexes = []; declared = names }) (at.place + 1 + length params + length body.vars)
    (record { slots = slots; helpers = refl; distinct = at.distinct; params = params_at program front (helper f params body) after is parts }) refl r
    (λ m d h. clean m d (inr (inr (inr (inr (inr (inr (inl h))))))))
    (few_statements at.place params body (λ m d h. clean m d (inr (inr (inl h)))))
item_ready program front (entry f params body) after code is parts r slots at =
    let own : List Name = map (λ (p : Param). p.name) params in
    let names : List Name = own ++ body.vars in
    let clean = at.clean in
    body_ready program front own body code (record { above = onto front []; visible = names; indexes = []; declared = names }) (at.place + 1 + length params + length body.vars)
    (record { slots = slots; helpers = refl; distinct = at.distinct; params = params_at program front (entry f params body) after is parts }) refl r
    (λ m d h. clean m d (inr (inr (inr (inr (inr (inr (inl h))))))))
    (few_statements at.place own body (λ m d h. clean m d (inr (inr (inl h)))))

pub code_ready : (program : Resolution) (n : ℕ) (code : Code) (item : Item) → IsResolution program → IsCode (tree_of program) n (code_of code) → slice_get (procs_of program) n ≡ Some item → Ready program (code_of code)
code_ready program n code item is coded at =
    let s = stands (tree_of program) n (code_of code) coded item at in
    item_ready program s.before item s.after (code_of code) is s.parts s.resolves (slots_of (tree_of program) n (code_of code) item is.valid coded at)
    (split (tree_of program) s.before item s.after is.valid s.parts)
