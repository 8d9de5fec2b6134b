-- The sites and the literals of a procedure's code: sites are numbered in text order, and literals are words.
use Rattle.std.proofs.Common.{◌≡◌, ℕ, zero, suc, ◌+◌, ◌≤◌, List, [], ◌∷◌, map, refl, sym, ap, subst, arith, ◌∙◌}
use Rattle.std.specs.Bool.{⊤}
use Rattle.std.specs.List.{All}
use Rattle.vmv_tree.specs.declared.tree.Operand.{Operand}
use Rattle.vmv_tree.specs.declared.tree.Operand.TheVariants.{Lit, Var}
use Rattle.vmv_tree.specs.declared.tree.Param.{Param}
use Rattle.vmv_tree.specs.Tree.{Stmt, copy, compute, call, assert, choose, repeat, Block, [], ◌⨾◌, Item, outside, helper, entry}
use Rattle.vmv_tree.specs.Run.{block_sites as tree_block_sites, sites as tree_sites}
use Rattle.vmv_snapshot.specs.declared.code.CodeOperand.{CodeOperand}
use Rattle.vmv_snapshot.specs.declared.code.CodeOperand.TheVariants.{Lit, Var}
use Rattle.vmv_snapshot.specs.declared.code.Simple.{Simple}
use Rattle.vmv_snapshot.specs.declared.code.Simple.TheVariants.{Set, Arith, Ask, Assert}
use Rattle.vmv_snapshot.specs.Code.{Stmt as CodeStmt, plain, help, branch, loop, Block as CodeBlock, [], ◌⨾◌, Body as CodeBody}
use Rattle.vmv_snapshot.specs.Resolves.{Scope, Resolves, ResolvesAll, ResolvesOperand, ResolvesArgs, ResolvesItem, scope_of}
use Rattle.vmv_snapshot.specs.Tables.{body_sites}
use Rattle.vmv_step.specs.Agree.{HasSite, HasWords, IsWordOperand}
use Rattle.vmv_pass.specs.Moves.{HasSites, HaveSites}

abbrev pub simple_sites : Simple → ℕ
simple_sites (Set to from) = 0
simple_sites (Arith to op left right site) = 1
simple_sites (Ask to callee args) = 0
simple_sites (Assert test site) = 1

-- how many sites there are, those inside other statements counted
abbrev mutual
  pub sites : CodeStmt → ℕ
  sites (plain simple) = simple_sites simple
  sites (help to callee args) = 0
  sites (branch test first second) = block_sites first + block_sites second
  sites (loop index slot bound most site body) = 1 + block_sites body

  pub block_sites : CodeBlock → ℕ
  block_sites [] = 0
  block_sites (s ⨾ rest) = sites s + block_sites rest

-- behind m sites, the sites have the numbers from m + 1 on, in text order; literals are words
abbrev mutual
  pub IsKnown : ℕ → CodeStmt → Type 0
  IsKnown m (plain simple) = HasWords simple × ((n : ℕ) → HasSite simple n → n ≡ m + 1)
  IsKnown m (help to callee args) = ⊤
  IsKnown m (branch test first second) = AreKnown m first × AreKnown (m + block_sites first) second
  IsKnown m (loop index slot bound most site body) = (site ≡ m + 1) × AreKnown (m + 1) body

  pub AreKnown : ℕ → CodeBlock → Type 0
  AreKnown m [] = ⊤
  AreKnown m (s ⨾ rest) = IsKnown m s × AreKnown (m + sites s) rest

word_operand : (scope : Scope) (o : Operand) (c : CodeOperand) → ResolvesOperand scope o c → IsWordOperand c
word_operand scope (Lit w) (Lit u) r = subst IsWordOperand (ap (λ v. Lit v) (sym r.0)) r.1
word_operand scope (Lit w) (Var n) r = absurd r
word_operand scope (Var x) (Lit u) r = absurd r
word_operand scope (Var x) (Var n) r = tt

word_args : (scope : Scope) (args : List Operand) (codes : List CodeOperand) → ResolvesArgs scope args codes → All IsWordOperand codes
word_args scope [] [] res k d h = absurd (omega arith)
word_args scope [] (c ∷ codes) res k d h = absurd res
word_args scope (o ∷ args) [] res k d h = absurd res
word_args scope (o ∷ args) (c ∷ codes) res zero d h = word_operand scope o c res.0
word_args scope (o ∷ args) (c ∷ codes) res (suc k) d h = word_args scope args codes res.1 k d (omega (arith, h))

mutual
  unfolding Resolves

  stmt_size : (scope : Scope) (k : ℕ) (s : Stmt) (c : CodeStmt) → Resolves scope k s c → sites c ≡ tree_sites s
  stmt_size scope k (copy to from) (plain (Set slot code)) r = refl
  stmt_size scope k (compute to op left right) (plain (Arith slot same a b site)) r = refl
  stmt_size scope k (call to callee args) (plain (Ask slot name codes)) r = refl
  stmt_size scope k (call to callee args) (help slot proc codes) r = refl
  stmt_size scope k (assert test) (plain (Assert code site)) r = refl
  stmt_size scope k (choose test first second) (branch code one other) r =
      let a = block_size scope k first one r.1 in
      let b = block_size scope (k + tree_block_sites first) second other r.2 in
      omega arith
  stmt_size scope k (repeat index bound most body) (loop slot next code cap site inside) r = let a = block_size scope (k + 1) body inside r.6 in omega arith
  stmt_size scope k s c r = absurd r

  pub block_size : (scope : Scope) (k : ℕ) (b : Block) (c : CodeBlock) → ResolvesAll scope k b c → block_sites c ≡ tree_block_sites b
  block_size scope k [] [] r = refl
  block_size scope k (s ⨾ rest) (c ⨾ codes) r =
      let a = stmt_size scope k s c r.0 in
      let b = block_size scope (k + tree_sites s) rest codes r.1 in
      omega arith
  block_size scope k b c r = absurd r

mutual
  unfolding Resolves

  stmt_known : (scope : Scope) (k : ℕ) (s : Stmt) (c : CodeStmt) → Resolves scope k s c → IsKnown k c
  stmt_known scope k (copy to from) (plain (Set slot code)) r = (word_operand scope from code r.1, λ n h. absurd h)
  stmt_known scope k (compute to op left right) (plain (Arith slot same a b site)) r = ((word_operand scope left a r.2, word_operand scope right b r.3), λ n h. sym h ∙ r.4)
  stmt_known scope k (call to callee args) (plain (Ask slot name codes)) r = (word_args scope args codes r.3, λ n h. absurd h)
  stmt_known scope k (call to callee args) (help slot proc codes) r = tt
  stmt_known scope k (assert test) (plain (Assert code site)) r = ((word_operand scope test.left code.left r.0.0, word_operand scope test.right code.right r.0.2), λ n h. sym h ∙ r.1)
  stmt_known scope k (choose test first second) (branch code one other) r =
      (block_known scope k first one r.1, subst (λ n. AreKnown (k + n) other) (sym (block_size scope k first one r.1)) (block_known scope (k + tree_block_sites first) second other r.2))
  stmt_known scope k (repeat index bound most body) (loop slot next code cap site inside) r = (r.5, block_known scope (k + 1) body inside r.6)
  stmt_known scope k s c r = absurd r

  block_known : (scope : Scope) (k : ℕ) (b : Block) (c : CodeBlock) → ResolvesAll scope k b c → AreKnown k c
  block_known scope k [] [] r = tt
  block_known scope k (s ⨾ rest) (c ⨾ codes) r =
      (stmt_known scope k s c r.0, subst (λ n. AreKnown (k + n) codes) (sym (stmt_size scope k s c r.0)) (block_known scope (k + tree_sites s) rest codes r.1))
  block_known scope k b c r = absurd r

-- the code of a procedure
pub record Known (item : Item) (code : CodeBody) : Type 0 where
  pub block : AreKnown 0 code.block
  pub count : block_sites code.block ≡ body_sites item

pub item_known : (before : List Item) (item : Item) (code : CodeBody) → ResolvesItem before item code → Known item code
item_known before (outside name arity) code r = absurd r
item_known before (helper name params body) code r =
    record { block = block_known (scope_of before params body) 0 body.block code.block r.statements; count = block_size (scope_of before params body) 0 body.block code.block r.statements }
item_known before (entry name params body) code r =
    let own = map (λ (p : Param). p.name) params in
    record { block = block_known (scope_of before own body) 0 body.block code.block r.statements; count = block_size (scope_of before own body) 0 body.block code.block r.statements }

simple_inside : (count m : ℕ) (simple : Simple) → m + simple_sites simple ≤ count → ((n : ℕ) → HasSite simple n → n ≡ m + 1) → (n : ℕ) → HasSite simple n → (1 ≤ n) × (n ≤ count)
simple_inside count m (Set slot code) h known n has = absurd has
simple_inside count m (Arith slot op a b site) h known n has = let e = known n has in (omega arith, omega arith)
simple_inside count m (Ask slot name codes) h known n has = absurd has
simple_inside count m (Assert test site) h known n has = let e = known n has in (omega arith, omega arith)

mutual
  stmt_inside : (count m : ℕ) (s : CodeStmt) → m + sites s ≤ count → IsKnown m s → HasSites count s
  stmt_inside count m (plain simple) h known = simple_inside count m simple h known.1
  stmt_inside count m (help to callee args) h known = tt
  stmt_inside count m (branch test first second) h known =
      (block_inside count m first (omega arith) known.0, block_inside count (m + block_sites first) second (omega arith) known.1)
  stmt_inside count m (loop index slot bound most site body) h known =
      let e = known.0 in
      (omega arith, omega arith, block_inside count (m + 1) body (omega arith) known.1)

  pub block_inside : (count m : ℕ) (b : CodeBlock) → m + block_sites b ≤ count → AreKnown m b → HaveSites count b
  block_inside count m [] h known = tt
  block_inside count m (s ⨾ rest) h known = (stmt_inside count m s (omega arith) known.0, block_inside count (m + sites s) rest (omega arith) known.1)
