-- The code that holds a tree is determined by the tree.
use Rattle.std.proofs.Common.{◌≡◌, List, [], ◌∷◌, refl, sym, ap, ◌∙◌}
use Rattle.vmv_tree.specs.declared.tree.Stmt.{Stmt, Set, Arith, Call, Assert, If, Repeat, roll-Stmt}
use Rattle.vmv_tree.specs.declared.tree.Stmt.TheOpen.{Stmt-F}
use Rattle.vmv_tree.specs.declared.tree.Stmt.TheOpen as layers
use Rattle.vmv_tree.specs.declared.tree.Stmt.TheFolds.{ind-Stmt}
use Rattle.vmv_tree.specs.declared.tree.Stmt.TheVariants.{rolls-Set, rolls-Arith, rolls-Call, rolls-Assert, rolls-If, rolls-Repeat}
use Rattle.vmv_tree.specs.declared.tree.Body.{Body}
use Rattle.vmv_tree.specs.declared.tree.Item.{Item}
use Rattle.vmv_tree.specs.declared.tree.Item.TheVariants.{Outside, Helper, Entry}
use Rattle.vmv_tree.specs.declared.tree.Program.{Program}
use Rattle.vmv_tree.specs.Tree as tree
use Rattle.vmv_tree.specs.Tree.{[], ◌⨾◌}
use Rattle.vmv_tree.specs.View.{stmt_of, block_of, body_of, item_of, items_of, program_of, stmt_of-set, stmt_of-arith, stmt_of-call, stmt_of-assert, stmt_of-if, stmt_of-repeat}

-- the code of a tree
abbrev mutual
  back_stmt : tree.Stmt → Stmt
  back_stmt (tree.copy to from) = Set to from
  back_stmt (tree.compute to op left right) = Arith to op left right
  back_stmt (tree.call to callee args) = Call to callee args
  back_stmt (tree.assert test) = Assert test
  back_stmt (tree.choose test first second) = If test (back_block first) (back_block second)
  back_stmt (tree.repeat index bound most body) = Repeat index bound most (back_block body)

  back_block : tree.Block → List Stmt
  back_block [] = []
  back_block (s ⨾ rest) = back_stmt s ∷ back_block rest

-- a statement's layer
layer : (s : Stmt) → (l : Stmt-F Stmt) × (roll-Stmt l ≡ s)
layer = ind-Stmt (λ s. (l : Stmt-F Stmt) × (roll-Stmt l ≡ s)) (λ x y is. (x, refl))

abbrev seen : Stmt-F Stmt → tree.Stmt
seen (layers.Set to from) = tree.copy to from
seen (layers.Arith to op left right) = tree.compute to op left right
seen (layers.Call to callee args) = tree.call to callee args
seen (layers.Assert test) = tree.assert test
seen (layers.If test first second) = tree.choose test (block_of first) (block_of second)
seen (layers.Repeat index bound most body) = tree.repeat index bound most (block_of body)

seen_is : (l : Stmt-F Stmt) → stmt_of (roll-Stmt l) ≡ seen l
seen_is (layers.Set to from) = ap stmt_of (rolls-Set to from) ∙ stmt_of-set to from
seen_is (layers.Arith to op left right) = ap stmt_of (rolls-Arith to op left right) ∙ stmt_of-arith to op left right
seen_is (layers.Call to callee args) = ap stmt_of (rolls-Call to callee args) ∙ stmt_of-call to callee args
seen_is (layers.Assert test) = ap stmt_of (rolls-Assert test) ∙ stmt_of-assert test
seen_is (layers.If test first second) = ap stmt_of (rolls-If test first second) ∙ stmt_of-if test first second
seen_is (layers.Repeat index bound most body) = ap stmt_of (rolls-Repeat index bound most body) ∙ stmt_of-repeat index bound most body

mutual
  stmt_from : (u : tree.Stmt) (l : Stmt-F Stmt) → seen l ≡ u → roll-Stmt l ≡ back_stmt u
  stmt_from (tree.copy to from) (layers.Set to' from') e = rolls-Set to' from' ∙ ap back_stmt e
  stmt_from (tree.compute to op left right) (layers.Arith to' op' left' right') e = rolls-Arith to' op' left' right' ∙ ap back_stmt e
  stmt_from (tree.call to callee args) (layers.Call to' callee' args') e = rolls-Call to' callee' args' ∙ ap back_stmt e
  stmt_from (tree.assert test) (layers.Assert test') e = rolls-Assert test' ∙ ap back_stmt e
  stmt_from (tree.choose test one two) (layers.If test' first second) e =
      let t : test' ≡ test = cc e in
      let a : block_of first ≡ one = cc e in
      let b : block_of second ≡ two = cc e in
      let f = block_from one first a in
      let g = block_from two second b in
      rolls-If test' first second ∙ (λ i. If (t i) (f i) (g i))
  stmt_from (tree.repeat index bound most inside) (layers.Repeat index' bound' most' body) e =
      let x : index' ≡ index = cc e in
      let y : bound' ≡ bound = cc e in
      let z : most' ≡ most = cc e in
      let a : block_of body ≡ inside = cc e in
      let f = block_from inside body a in
      rolls-Repeat index' bound' most' body ∙ (λ i. Repeat (x i) (y i) (z i) (f i))
  stmt_from (tree.copy to from) (layers.Arith to' op' left' right') e = absurd (cc e)
  stmt_from (tree.copy to from) (layers.Call to' callee' args') e = absurd (cc e)
  stmt_from (tree.copy to from) (layers.Assert test') e = absurd (cc e)
  stmt_from (tree.copy to from) (layers.If test' first second) e = absurd (cc e)
  stmt_from (tree.copy to from) (layers.Repeat index' bound' most' body) e = absurd (cc e)
  stmt_from (tree.compute to op left right) (layers.Set to' from') e = absurd (cc e)
  stmt_from (tree.compute to op left right) (layers.Call to' callee' args') e = absurd (cc e)
  stmt_from (tree.compute to op left right) (layers.Assert test') e = absurd (cc e)
  stmt_from (tree.compute to op left right) (layers.If test' first second) e = absurd (cc e)
  stmt_from (tree.compute to op left right) (layers.Repeat index' bound' most' body) e = absurd (cc e)
  stmt_from (tree.call to callee args) (layers.Set to' from') e = absurd (cc e)
  stmt_from (tree.call to callee args) (layers.Arith to' op' left' right') e = absurd (cc e)
  stmt_from (tree.call to callee args) (layers.Assert test') e = absurd (cc e)
  stmt_from (tree.call to callee args) (layers.If test' first second) e = absurd (cc e)
  stmt_from (tree.call to callee args) (layers.Repeat index' bound' most' body) e = absurd (cc e)
  stmt_from (tree.assert test) (layers.Set to' from') e = absurd (cc e)
  stmt_from (tree.assert test) (layers.Arith to' op' left' right') e = absurd (cc e)
  stmt_from (tree.assert test) (layers.Call to' callee' args') e = absurd (cc e)
  stmt_from (tree.assert test) (layers.If test' first second) e = absurd (cc e)
  stmt_from (tree.assert test) (layers.Repeat index' bound' most' body) e = absurd (cc e)
  stmt_from (tree.choose test one two) (layers.Set to' from') e = absurd (cc e)
  stmt_from (tree.choose test one two) (layers.Arith to' op' left' right') e = absurd (cc e)
  stmt_from (tree.choose test one two) (layers.Call to' callee' args') e = absurd (cc e)
  stmt_from (tree.choose test one two) (layers.Assert test') e = absurd (cc e)
  stmt_from (tree.choose test one two) (layers.Repeat index' bound' most' body) e = absurd (cc e)
  stmt_from (tree.repeat index bound most inside) (layers.Set to' from') e = absurd (cc e)
  stmt_from (tree.repeat index bound most inside) (layers.Arith to' op' left' right') e = absurd (cc e)
  stmt_from (tree.repeat index bound most inside) (layers.Call to' callee' args') e = absurd (cc e)
  stmt_from (tree.repeat index bound most inside) (layers.Assert test') e = absurd (cc e)
  stmt_from (tree.repeat index bound most inside) (layers.If test' first second) e = absurd (cc e)

  block_from : (b : tree.Block) (f : List Stmt) → block_of f ≡ b → f ≡ back_block b
  block_from [] [] e = refl
  block_from [] (s ∷ f) e = absurd (cc e)
  block_from (u ⨾ rest) [] e = absurd (cc e)
  block_from (u ⨾ rest) (s ∷ f) e =
      let head : stmt_of s ≡ u = cc e in
      let tail : block_of f ≡ rest = cc e in
      let first = sym (layer s).1 ∙ stmt_from u (layer s).0 (sym (seen_is (layer s).0) ∙ (ap stmt_of (layer s).1 ∙ head)) in
      let more = block_from rest f tail in
      λ i. first i ∷ more i

block_once : (a b : List Stmt) → block_of a ≡ block_of b → a ≡ b
block_once a b e = block_from (block_of b) a e ∙ sym (block_from (block_of b) b refl)

body_once : (a b : Body) → body_of a ≡ body_of b → a ≡ b
body_once a b e =
    let vars : a.vars ≡ b.vars = ap (λ (x : tree.Body). x.vars) e in
    let block = block_once a.block b.block (ap (λ (x : tree.Body). x.block) e) in
    let last : a.result ≡ b.result = ap (λ (x : tree.Body). x.output) e in
    λ i. record { vars = vars i; block = block i; result = last i }

item_once : (a b : Item) → item_of a ≡ item_of b → a ≡ b
item_once (Outside name arity) (Outside name' arity') e =
    let x : name ≡ name' = cc e in let y : arity ≡ arity' = cc e in λ i. Outside (x i) (y i)
item_once (Helper name params body) (Helper name' params' body') e =
    let x : name ≡ name' = cc e in
    let y : params ≡ params' = cc e in
    let same : body_of body ≡ body_of body' = cc e in
    let z = body_once body body' same in
    λ i. Helper (x i) (y i) (z i)
item_once (Entry name params body) (Entry name' params' body') e =
    let x : name ≡ name' = cc e in
    let y : params ≡ params' = cc e in
    let same : body_of body ≡ body_of body' = cc e in
    let z = body_once body body' same in
    λ i. Entry (x i) (y i) (z i)
item_once (Outside name arity) (Helper name' params' body') e = absurd (cc e)
item_once (Outside name arity) (Entry name' params' body') e = absurd (cc e)
item_once (Helper name params body) (Outside name' arity') e = absurd (cc e)
item_once (Helper name params body) (Entry name' params' body') e = absurd (cc e)
item_once (Entry name params body) (Outside name' arity') e = absurd (cc e)
item_once (Entry name params body) (Helper name' params' body') e = absurd (cc e)

items_once : (a b : List Item) → items_of a ≡ items_of b → a ≡ b
items_once [] [] e = refl
items_once [] (y ∷ b) e = absurd (cc e)
items_once (x ∷ a) [] e = absurd (cc e)
items_once (x ∷ a) (y ∷ b) e =
    let head : item_of x ≡ item_of y = cc e in
    let tail : items_of a ≡ items_of b = cc e in
    let first = item_once x y head in
    let more = items_once a b tail in
    λ i. first i ∷ more i

-- a tree is held in one way
pub program_once : (p q : Program) → program_of p ≡ program_of q → p ≡ q
program_once p q e = let items = items_once p.items q.items e in λ i. record { items = items i }
