-- The code that holds a resolved tree is determined by the tree.
use Rattle.std.proofs.Common.{◌≡◌, List, [], ◌∷◌, refl, sym, ap, ◌∙◌}
use Rattle.vmv_snapshot.specs.declared.code.CodeStmt.{CodeStmt, Plain, Help, If, Repeat, roll-CodeStmt}
use Rattle.vmv_snapshot.specs.declared.code.CodeStmt.TheOpen.{CodeStmt-F}
use Rattle.vmv_snapshot.specs.declared.code.CodeStmt.TheOpen as layers
use Rattle.vmv_snapshot.specs.declared.code.CodeStmt.TheFolds.{ind-CodeStmt}
use Rattle.vmv_snapshot.specs.declared.code.CodeStmt.TheVariants.{rolls-Plain, rolls-Help, rolls-If, rolls-Repeat}
use Rattle.vmv_snapshot.specs.declared.code.CodeRepeat.{CodeRepeat}
use Rattle.vmv_snapshot.specs.declared.code.Code.{Code}
use Rattle.vmv_snapshot.specs.Code as code
use Rattle.vmv_snapshot.specs.Code.{[], ◌⨾◌}
use Rattle.vmv_snapshot.specs.View.{stmt_of, block_of, code_of, stmt_of-plain, stmt_of-help, stmt_of-if, stmt_of-repeat}

-- the code of a resolved tree
abbrev mutual
  back_stmt : code.Stmt → CodeStmt
  back_stmt (code.plain simple) = Plain simple
  back_stmt (code.help to callee args) = Help to callee args
  back_stmt (code.branch test first second) = If test (back_block first) (back_block second)
  back_stmt (code.loop index slot bound most site body) =
      Repeat (record { index = index; slot = slot; bound = bound; cap = most; site = site; body = back_block body })

  back_block : code.Block → List CodeStmt
  back_block [] = []
  back_block (s ⨾ rest) = back_stmt s ∷ back_block rest

-- a statement's layer
layer : (s : CodeStmt) → (l : CodeStmt-F CodeStmt CodeRepeat) × (roll-CodeStmt l ≡ s)
layer = ind-CodeStmt (λ s. (l : CodeStmt-F CodeStmt CodeRepeat) × (roll-CodeStmt l ≡ s)) (λ r. Unit {0}) (λ x y is. (x, refl)) (λ x y is. tt)

abbrev seen : CodeStmt-F CodeStmt CodeRepeat → code.Stmt
seen (layers.Plain simple) = code.plain simple
seen (layers.Help to callee args) = code.help to callee args
seen (layers.If test first second) = code.branch test (block_of first) (block_of second)
seen (layers.Repeat r) = code.loop r.index r.slot r.bound r.cap r.site (block_of r.body)

seen_is : (l : CodeStmt-F CodeStmt CodeRepeat) → stmt_of (roll-CodeStmt l) ≡ seen l
seen_is (layers.Plain simple) = ap stmt_of (rolls-Plain simple) ∙ stmt_of-plain simple
seen_is (layers.Help to callee args) = ap stmt_of (rolls-Help to callee args) ∙ stmt_of-help to callee args
seen_is (layers.If test first second) = ap stmt_of (rolls-If test first second) ∙ stmt_of-if test first second
seen_is (layers.Repeat r) = ap stmt_of (rolls-Repeat r) ∙ stmt_of-repeat r.index r.slot r.bound r.cap r.site r.body

mutual
  stmt_from : (u : code.Stmt) (l : CodeStmt-F CodeStmt CodeRepeat) → seen l ≡ u → roll-CodeStmt l ≡ back_stmt u
  stmt_from (code.plain simple) (layers.Plain simple') e = rolls-Plain simple' ∙ ap back_stmt e
  stmt_from (code.help to callee args) (layers.Help to' callee' args') e = rolls-Help to' callee' args' ∙ ap back_stmt e
  stmt_from (code.branch test one two) (layers.If test' first second) e =
      let t : test' ≡ test = cc e in
      let a : block_of first ≡ one = cc e in
      let b : block_of second ≡ two = cc e in
      let f = block_from one first a in
      let g = block_from two second b in
      rolls-If test' first second ∙ (λ i. If (t i) (f i) (g i))
  stmt_from (code.loop index slot bound most site inside) (layers.Repeat r) e =
      let x : r.index ≡ index = cc e in
      let y : r.slot ≡ slot = cc e in
      let z : r.bound ≡ bound = cc e in
      let v : r.cap ≡ most = cc e in
      let w : r.site ≡ site = cc e in
      let a : block_of r.body ≡ inside = cc e in
      let f = block_from inside r.body a in
      rolls-Repeat r ∙ (λ i. Repeat (record { index = x i; slot = y i; bound = z i; cap = v i; site = w i; body = f i }))
  stmt_from (code.plain simple) (layers.Help to' callee' args') e = absurd (cc e)
  stmt_from (code.plain simple) (layers.If test' first second) e = absurd (cc e)
  stmt_from (code.plain simple) (layers.Repeat r) e = absurd (cc e)
  stmt_from (code.help to callee args) (layers.Plain simple') e = absurd (cc e)
  stmt_from (code.help to callee args) (layers.If test' first second) e = absurd (cc e)
  stmt_from (code.help to callee args) (layers.Repeat r) e = absurd (cc e)
  stmt_from (code.branch test one two) (layers.Plain simple') e = absurd (cc e)
  stmt_from (code.branch test one two) (layers.Help to' callee' args') e = absurd (cc e)
  stmt_from (code.branch test one two) (layers.Repeat r) e = absurd (cc e)
  stmt_from (code.loop index slot bound most site inside) (layers.Plain simple') e = absurd (cc e)
  stmt_from (code.loop index slot bound most site inside) (layers.Help to' callee' args') e = absurd (cc e)
  stmt_from (code.loop index slot bound most site inside) (layers.If test' first second) e = absurd (cc e)

  block_from : (b : code.Block) (f : List CodeStmt) → block_of f ≡ b → f ≡ back_block b
  block_from [] [] e = refl
  block_from [] (s ∷ f) e = absurd (cc e)
  block_from (u ⨾ rest) [] e = absurd (cc e)
  block_from (u ⨾ rest) (s ∷ f) e =
      let head : stmt_of s ≡ u = cc e in
      let tail : block_of f ≡ rest = cc e in
      let first = sym (layer s).1 ∙ stmt_from u (layer s).0 (sym (seen_is (layer s).0) ∙ (ap stmt_of (layer s).1 ∙ head)) in
      let more = block_from rest f tail in
      λ i. first i ∷ more i

block_once : (a b : List CodeStmt) → block_of a ≡ block_of b → a ≡ b
block_once a b e = block_from (block_of b) a e ∙ sym (block_from (block_of b) b refl)

-- a resolved tree is held in one way
pub code_held_once : (c d : Code) → code_of c ≡ code_of d → c ≡ d
code_held_once c d e =
    let vars : c.vars ≡ d.vars = ap (λ (x : code.Body). x.vars) e in
    let block = block_once c.block d.block (ap (λ (x : code.Body). x.block) e) in
    let last : c.result ≡ d.result = ap (λ (x : code.Body). x.output) e in
    λ i. record { vars = vars i; block = block i; result = last i }
