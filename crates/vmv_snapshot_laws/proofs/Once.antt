-- A procedure is resolved in one way.
use Rattle.std.proofs.Common.{◌≡◌, ℕ, ◌+◌, List, [], ◌∷◌, refl, sym, ap, ◌∙◌, arith}
use Rattle.vmv_tree.specs.declared.name.Name.{Name}
use Rattle.vmv_tree.specs.declared.tree.Operand.{Operand}
use Rattle.vmv_tree.specs.declared.tree.Operand.TheVariants.{Lit, Var}
use Rattle.vmv_tree.specs.declared.tree.Test.{Test}
use Rattle.vmv_tree.specs.Tree.{Stmt, copy, compute, call, assert, choose, repeat, Block, [], ◌⨾◌, Body}
use Rattle.vmv_tree.specs.Run.{sites, block_sites}
use Rattle.vmv_snapshot.specs.declared.code.Slot.{Slot}
use Rattle.vmv_snapshot.specs.declared.code.ProcId.{ProcId}
use Rattle.vmv_snapshot.specs.declared.code.CodeOperand.{CodeOperand}
use Rattle.vmv_snapshot.specs.declared.code.CodeOperand.TheVariants.{Lit as CodeLit, Var as CodeVar}
use Rattle.vmv_snapshot.specs.declared.code.CodeTest.{CodeTest}
use Rattle.vmv_snapshot.specs.declared.code.Simple.TheVariants.{Set, Arith, Ask, Assert}
use Rattle.vmv_snapshot.specs.Code.{Stmt as CodeStmt, plain, help, branch, loop, Block as CodeBlock, [], ◌⨾◌, Body as CodeBody}
use Rattle.vmv_snapshot.specs.Resolves.{Scope, IsSlot, IsHelper, ResolvesOperand, ResolvesTest, ResolvesArgs, Resolves, ResolvesAll, ResolvesBody}
use Rattle.vmv_snapshot.proofs.Distinct.{AreOnePlace}
use Rattle.std.specs.List.{Contains}

-- each name in it means one thing
pub record IsOnce (scope : Scope) : Type 0 where
  pub slots : AreOnePlace scope.slots
  pub helpers : AreOnePlace scope.helpers
  pub apart : (name : Name) (proc : ProcId) → Contains scope.outsides name → IsHelper scope name proc → ⊥

slot_once : (scope : Scope) → IsOnce scope → (name : Name) (a b : Slot) → IsSlot scope name a → IsSlot scope name b → a ≡ b
slot_once scope once name a b h k = let same : a.0 ≡ b.0 = once.slots a.0 b.0 name h k in λ i. record { 0 = same i }

helper_once : (scope : Scope) → IsOnce scope → (name : Name) (a b : ProcId) → IsHelper scope name a → IsHelper scope name b → a ≡ b
helper_once scope once name a b h k = let same : a.0 ≡ b.0 = once.helpers a.0 b.0 name h k in λ i. record { 0 = same i }

operand_once : (scope : Scope) → IsOnce scope → (o : Operand) (a b : CodeOperand) → ResolvesOperand scope o a → ResolvesOperand scope o b → a ≡ b
operand_once scope once (Lit word) (CodeLit x) (CodeLit y) h k = ap CodeLit (h.0 ∙ sym k.0)
operand_once scope once (Lit word) (CodeLit x) (CodeVar t) h k = absurd k
operand_once scope once (Lit word) (CodeVar s) b h k = absurd h
operand_once scope once (Var name) (CodeVar s) (CodeVar t) h k = ap CodeVar (slot_once scope once name s t h k)
operand_once scope once (Var name) (CodeVar s) (CodeLit y) h k = absurd k
operand_once scope once (Var name) (CodeLit x) b h k = absurd h

test_once : (scope : Scope) → IsOnce scope → (test : Test) (a b : CodeTest) → ResolvesTest scope test a → ResolvesTest scope test b → a ≡ b
test_once scope once test a b h k =
    let left = operand_once scope once test.left a.left b.left h.0 k.0 in
    let rel : a.rel ≡ b.rel = h.1 ∙ sym k.1 in
    let right = operand_once scope once test.right a.right b.right h.2 k.2 in
    λ i. record { left = left i; rel = rel i; right = right i }

args_once : (scope : Scope) → IsOnce scope → (args : List Operand) (a b : List CodeOperand) → ResolvesArgs scope args a → ResolvesArgs scope args b → a ≡ b
args_once scope once [] [] [] h k = refl
args_once scope once [] [] (y ∷ b) h k = absurd k
args_once scope once [] (x ∷ a) b h k = absurd h
args_once scope once (o ∷ args) [] b h k = absurd h
args_once scope once (o ∷ args) (x ∷ a) [] h k = absurd k
args_once scope once (o ∷ args) (x ∷ a) (y ∷ b) h k =
    let first = operand_once scope once o x y h.0 k.0 in let rest = args_once scope once args a b h.1 k.1 in λ i. first i ∷ rest i

call_once : (scope : Scope) → IsOnce scope → (n : ℕ) (to callee : Name) (args : List Operand) (c d : CodeStmt)
    → Resolves scope n (call to callee args) c → Resolves scope n (call to callee args) d → c ≡ d
unfolding Resolves
call_once scope once n to callee args (plain (Ask slot name codes)) (plain (Ask slot' name' codes')) h k =
    let s = slot_once scope once to slot slot' h.0 k.0 in
    let same : name ≡ name' = h.1 ∙ sym k.1 in
    let a = args_once scope once args codes codes' h.3 k.3 in
    λ i. plain (Ask (s i) (same i) (a i))
call_once scope once n to callee args (help slot proc codes) (help slot' proc' codes') h k =
    let s = slot_once scope once to slot slot' h.0 k.0 in
    let p = helper_once scope once callee proc proc' h.1 k.1 in
    let a = args_once scope once args codes codes' h.2 k.2 in
    λ i. help (s i) (p i) (a i)
call_once scope once n to callee args (plain (Ask slot name codes)) (help slot' proc' codes') h k = absurd (once.apart callee proc' h.2 k.1)
call_once scope once n to callee args (help slot proc codes) (plain (Ask slot' name' codes')) h k = absurd (once.apart callee proc k.2 h.1)
call_once scope once n to callee args (plain (Ask slot name codes)) (plain (Set a b)) h k = absurd k
call_once scope once n to callee args (plain (Ask slot name codes)) (plain (Arith a b c d e)) h k = absurd k
call_once scope once n to callee args (plain (Ask slot name codes)) (plain (Assert a b)) h k = absurd k
call_once scope once n to callee args (plain (Ask slot name codes)) (branch a b c) h k = absurd k
call_once scope once n to callee args (plain (Ask slot name codes)) (loop a b c d e f) h k = absurd k
call_once scope once n to callee args (help slot proc codes) (plain (Set a b)) h k = absurd k
call_once scope once n to callee args (help slot proc codes) (plain (Arith a b c d e)) h k = absurd k
call_once scope once n to callee args (help slot proc codes) (plain (Assert a b)) h k = absurd k
call_once scope once n to callee args (help slot proc codes) (branch a b c) h k = absurd k
call_once scope once n to callee args (help slot proc codes) (loop a b c d e f) h k = absurd k
call_once scope once n to callee args (plain (Set a b)) d h k = absurd h
call_once scope once n to callee args (plain (Arith a b c d e)) x h k = absurd h
call_once scope once n to callee args (plain (Assert a b)) d h k = absurd h
call_once scope once n to callee args (branch a b c) d h k = absurd h
call_once scope once n to callee args (loop a b c d e f) x h k = absurd h

mutual
  unfolding Resolves

  stmt_once : (scope : Scope) → IsOnce scope → (n : ℕ) (s : Stmt) (c d : CodeStmt) → Resolves scope n s c → Resolves scope n s d → c ≡ d
  stmt_once scope once n (copy to from) (plain (Set slot code)) (plain (Set slot' code')) h k =
      let s = slot_once scope once to slot slot' h.0 k.0 in let o = operand_once scope once from code code' h.1 k.1 in λ i. plain (Set (s i) (o i))
  stmt_once scope once n (compute to op left right) (plain (Arith slot same a b site)) (plain (Arith slot' same' a' b' site')) h k =
      let s = slot_once scope once to slot slot' h.0 k.0 in
      let p : same ≡ same' = h.1 ∙ sym k.1 in
      let x = operand_once scope once left a a' h.2 k.2 in
      let y = operand_once scope once right b b' h.3 k.3 in
      let z : site ≡ site' = h.4 ∙ sym k.4 in
      λ i. plain (Arith (s i) (p i) (x i) (y i) (z i))
  stmt_once scope once n (call to callee args) c d h k = call_once scope once n to callee args c d h k
  stmt_once scope once n (assert test) (plain (Assert code site)) (plain (Assert code' site')) h k =
      let t = test_once scope once test code code' h.0 k.0 in let z : site ≡ site' = h.1 ∙ sym k.1 in λ i. plain (Assert (t i) (z i))
  stmt_once scope once n (choose test first second) (branch code one other) (branch code' one' other') h k =
      let t = test_once scope once test code code' h.0 k.0 in
      let x = block_once scope once n first one one' h.1 k.1 in
      let y = block_once scope once (n + block_sites first) second other other' h.2 k.2 in
      λ i. branch (t i) (x i) (y i)
  stmt_once scope once n (repeat index bound most body) (loop slot next code same site inside) (loop slot' next' code' same' site' inside') h k =
      let s = slot_once scope once index slot slot' h.0 k.0 in
      let at : slot.0 ≡ slot'.0 = ap (λ (x : Slot). x.0) s in
      let after : next.0 ≡ next'.0 = h.1 ∙ (ap (λ m. m + 1) at ∙ sym k.1) in
      let o = operand_once scope once bound code code' h.3 k.3 in
      let m : same ≡ same' = h.4 ∙ sym k.4 in
      let z : site ≡ site' = h.5 ∙ sym k.5 in
      let b = block_once scope once (n + 1) body inside inside' h.6 k.6 in
      λ i. loop (s i) (record { 0 = after i }) (o i) (m i) (z i) (b i)
  stmt_once scope once n (copy to from) (plain (Set slot code)) (plain (Arith u v w x y)) h k = absurd k
  stmt_once scope once n (copy to from) (plain (Set slot code)) (plain (Ask u v w)) h k = absurd k
  stmt_once scope once n (copy to from) (plain (Set slot code)) (plain (Assert u v)) h k = absurd k
  stmt_once scope once n (copy to from) (plain (Set slot code)) (help u v w) h k = absurd k
  stmt_once scope once n (copy to from) (plain (Set slot code)) (branch u v w) h k = absurd k
  stmt_once scope once n (copy to from) (plain (Set slot code)) (loop u v w x y z) h k = absurd k
  stmt_once scope once n (copy to from) (plain (Arith u v w x y)) d h k = absurd h
  stmt_once scope once n (copy to from) (plain (Ask u v w)) d h k = absurd h
  stmt_once scope once n (copy to from) (plain (Assert u v)) d h k = absurd h
  stmt_once scope once n (copy to from) (help u v w) d h k = absurd h
  stmt_once scope once n (copy to from) (branch u v w) d h k = absurd h
  stmt_once scope once n (copy to from) (loop u v w x y z) d h k = absurd h
  stmt_once scope once n (compute to op left right) (plain (Arith slot same a b site)) (plain (Set u v)) h k = absurd k
  stmt_once scope once n (compute to op left right) (plain (Arith slot same a b site)) (plain (Ask u v w)) h k = absurd k
  stmt_once scope once n (compute to op left right) (plain (Arith slot same a b site)) (plain (Assert u v)) h k = absurd k
  stmt_once scope once n (compute to op left right) (plain (Arith slot same a b site)) (help u v w) h k = absurd k
  stmt_once scope once n (compute to op left right) (plain (Arith slot same a b site)) (branch u v w) h k = absurd k
  stmt_once scope once n (compute to op left right) (plain (Arith slot same a b site)) (loop u v w x y z) h k = absurd k
  stmt_once scope once n (compute to op left right) (plain (Set u v)) d h k = absurd h
  stmt_once scope once n (compute to op left right) (plain (Ask u v w)) d h k = absurd h
  stmt_once scope once n (compute to op left right) (plain (Assert u v)) d h k = absurd h
  stmt_once scope once n (compute to op left right) (help u v w) d h k = absurd h
  stmt_once scope once n (compute to op left right) (branch u v w) d h k = absurd h
  stmt_once scope once n (compute to op left right) (loop u v w x y z) d h k = absurd h
  stmt_once scope once n (assert test) (plain (Assert code site)) (plain (Set u v)) h k = absurd k
  stmt_once scope once n (assert test) (plain (Assert code site)) (plain (Arith u v w x y)) h k = absurd k
  stmt_once scope once n (assert test) (plain (Assert code site)) (plain (Ask u v w)) h k = absurd k
  stmt_once scope once n (assert test) (plain (Assert code site)) (help u v w) h k = absurd k
  stmt_once scope once n (assert test) (plain (Assert code site)) (branch u v w) h k = absurd k
  stmt_once scope once n (assert test) (plain (Assert code site)) (loop u v w x y z) h k = absurd k
  stmt_once scope once n (assert test) (plain (Set u v)) d h k = absurd h
  stmt_once scope once n (assert test) (plain (Arith u v w x y)) d h k = absurd h
  stmt_once scope once n (assert test) (plain (Ask u v w)) d h k = absurd h
  stmt_once scope once n (assert test) (help u v w) d h k = absurd h
  stmt_once scope once n (assert test) (branch u v w) d h k = absurd h
  stmt_once scope once n (assert test) (loop u v w x y z) d h k = absurd h
  stmt_once scope once n (choose test first second) (branch code one other) (plain (Set u v)) h k = absurd k
  stmt_once scope once n (choose test first second) (branch code one other) (plain (Arith u v w x y)) h k = absurd k
  stmt_once scope once n (choose test first second) (branch code one other) (plain (Ask u v w)) h k = absurd k
  stmt_once scope once n (choose test first second) (branch code one other) (plain (Assert u v)) h k = absurd k
  stmt_once scope once n (choose test first second) (branch code one other) (help u v w) h k = absurd k
  stmt_once scope once n (choose test first second) (branch code one other) (loop u v w x y z) h k = absurd k
  stmt_once scope once n (choose test first second) (plain (Set u v)) d h k = absurd h
  stmt_once scope once n (choose test first second) (plain (Arith u v w x y)) d h k = absurd h
  stmt_once scope once n (choose test first second) (plain (Ask u v w)) d h k = absurd h
  stmt_once scope once n (choose test first second) (plain (Assert u v)) d h k = absurd h
  stmt_once scope once n (choose test first second) (help u v w) d h k = absurd h
  stmt_once scope once n (choose test first second) (loop u v w x y z) d h k = absurd h
  stmt_once scope once n (repeat index bound most body) (loop slot next code same site inside) (plain (Set u v)) h k = absurd k
  stmt_once scope once n (repeat index bound most body) (loop slot next code same site inside) (plain (Arith u v w x y)) h k = absurd k
  stmt_once scope once n (repeat index bound most body) (loop slot next code same site inside) (plain (Ask u v w)) h k = absurd k
  stmt_once scope once n (repeat index bound most body) (loop slot next code same site inside) (plain (Assert u v)) h k = absurd k
  stmt_once scope once n (repeat index bound most body) (loop slot next code same site inside) (help u v w) h k = absurd k
  stmt_once scope once n (repeat index bound most body) (loop slot next code same site inside) (branch u v w) h k = absurd k
  stmt_once scope once n (repeat index bound most body) (plain (Set u v)) d h k = absurd h
  stmt_once scope once n (repeat index bound most body) (plain (Arith u v w x y)) d h k = absurd h
  stmt_once scope once n (repeat index bound most body) (plain (Ask u v w)) d h k = absurd h
  stmt_once scope once n (repeat index bound most body) (plain (Assert u v)) d h k = absurd h
  stmt_once scope once n (repeat index bound most body) (help u v w) d h k = absurd h
  stmt_once scope once n (repeat index bound most body) (branch u v w) d h k = absurd h

  block_once : (scope : Scope) → IsOnce scope → (n : ℕ) (b : Block) (c d : CodeBlock) → ResolvesAll scope n b c → ResolvesAll scope n b d → c ≡ d
  block_once scope once n [] [] [] h k = refl
  block_once scope once n [] [] (y ⨾ d) h k = absurd k
  block_once scope once n [] (x ⨾ c) d h k = absurd h
  block_once scope once n (s ⨾ rest) [] d h k = absurd h
  block_once scope once n (s ⨾ rest) (x ⨾ c) [] h k = absurd k
  block_once scope once n (s ⨾ rest) (x ⨾ c) (y ⨾ d) h k =
      let first = stmt_once scope once n s x y h.0 k.0 in let more = block_once scope once (n + sites s) rest c d h.1 k.1 in λ i. first i ⨾ more i

pub body_once : (scope : Scope) → IsOnce scope → (body : Body) (c d : CodeBody) → ResolvesBody scope body c → ResolvesBody scope body d → c ≡ d
body_once scope once body c d h k =
    let vars : c.vars ≡ d.vars = (let a = h.slots in let b = k.slots in omega (arith, a, b)) in
    let block = block_once scope once 0 body.block c.block d.block h.statements k.statements in
    let last = operand_once scope once body.output c.output d.output h.returned k.returned in
    λ i. record { vars = vars i; block = block i; output = last i }
