-- The literals of resolved statements are words.
use Rattle.std.proofs.Common.{◌≡◌, ℕ, zero, suc, ◌+◌, Some, List, [], ◌∷◌, slice_get, sym, subst, arith}
use Rattle.std.specs.Prelude.{⊤}
use Rattle.std.specs.List.{All}
use Rattle.vmv_tree.specs.Words.{IsWord}
use Rattle.vmv_tree.specs.declared.tree.Operand.{Operand}
use Rattle.vmv_tree.specs.declared.tree.Operand.TheVariants.{Lit, Var}
use Rattle.vmv_tree.specs.Tree.{Stmt, copy, compute, call, assert, choose, repeat, Block, [], ◌⨾◌, Item, outside, helper, entry}
use Rattle.vmv_tree.specs.Run.{sites, block_sites}
use Rattle.vmv_snapshot.specs.declared.code.CodeOperand.{CodeOperand}
use Rattle.vmv_snapshot.specs.declared.code.CodeOperand.TheVariants.{Lit, Var}
use Rattle.vmv_snapshot.specs.declared.code.Simple.TheVariants.{Set, Arith, Ask, Assert}
use Rattle.vmv_snapshot.specs.declared.code.Code.{Code}
use Rattle.vmv_snapshot.specs.Code.{Stmt as CodeStmt, plain, help, branch, loop, Block as CodeBlock, [], ◌⨾◌, Body as CodeBody}
use Rattle.vmv_snapshot.specs.View.{code_of}
use Rattle.vmv_snapshot.specs.Resolves.{Scope, Resolves, ResolvesAll, ResolvesOperand, ResolvesArgs, ResolvesItem}
use Rattle.vmv_snapshot.specs.Resolution.{Resolution, IsResolution}
use Rattle.vmv_step.specs.Agree.{IsWordOperand, HasWords}

-- each literal in a statement is a word
abbrev mutual
  pub IsWorded : CodeStmt → Type 0
  IsWorded (plain simple) = HasWords simple
  IsWorded (help to callee args) = All IsWordOperand args
  IsWorded (branch test first second) = IsWordOperand test.left × IsWordOperand test.right × AreWorded first × AreWorded second
  IsWorded (loop index slot bound most site body) = IsWordOperand bound × AreWorded body

  pub AreWorded : CodeBlock → Type 0
  AreWorded [] = ⊤
  AreWorded (s ⨾ rest) = IsWorded s × AreWorded rest

operand_worded : (scope : Scope) (o : Operand) (c : CodeOperand) → ResolvesOperand scope o c → IsWordOperand c
operand_worded scope (Lit w) (Lit u) r = subst IsWord (sym r.0) r.1
operand_worded scope (Lit w) (Var n) r = absurd r
operand_worded scope (Var x) (Lit u) r = absurd r
operand_worded scope (Var x) (Var n) r = tt

args_worded : (scope : Scope) (args : List Operand) (codes : List CodeOperand) → ResolvesArgs scope args codes → All IsWordOperand codes
args_worded scope [] [] res k d h = absurd (omega arith)
args_worded scope [] (c ∷ codes) res k d h = absurd res
args_worded scope (o ∷ args) [] res k d h = absurd res
args_worded scope (o ∷ args) (c ∷ codes) res zero d h = operand_worded scope o c res.0
args_worded scope (o ∷ args) (c ∷ codes) res (suc k) d h = args_worded scope args codes res.1 k d (omega (arith, h))

mutual
  unfolding Resolves

  stmt_worded : (scope : Scope) (k : ℕ) (s : Stmt) (c : CodeStmt) → Resolves scope k s c → IsWorded c
  stmt_worded scope k (copy to from) (plain (Set slot code)) r = operand_worded scope from code r.1
  stmt_worded scope k (compute to op left right) (plain (Arith slot op' a b site)) r = (operand_worded scope left a r.2, operand_worded scope right b r.3)
  stmt_worded scope k (call to callee args) (plain (Ask slot name codes)) r = args_worded scope args codes r.3
  stmt_worded scope k (call to callee args) (help slot proc codes) r = args_worded scope args codes r.2
  stmt_worded scope k (assert test) (plain (Assert code site)) r = (operand_worded scope test.left code.left r.0.0, operand_worded scope test.right code.right r.0.2)
  stmt_worded scope k (choose test first second) (branch code one other) r = (
    operand_worded scope test.left code.left r.0.0,
    operand_worded scope test.right code.right r.0.2,
    block_worded scope k first one r.1,
    block_worded scope (k + block_sites first) second other r.2,
  )
  stmt_worded scope k (repeat index bound most body) (loop slot next code cap site inside) r = (operand_worded scope bound code r.3, block_worded scope (k + 1) body inside r.6)
  stmt_worded scope k s c r = absurd r

  block_worded : (scope : Scope) (k : ℕ) (b : Block) (c : CodeBlock) → ResolvesAll scope k b c → AreWorded c
  block_worded scope k [] [] r = tt
  block_worded scope k (s ⨾ rest) (c ⨾ codes) r = (stmt_worded scope k s c r.0, block_worded scope (k + sites s) rest codes r.1)
  block_worded scope k b c r = absurd r

item_worded : (before : List Item) (item : Item) (code : CodeBody) → ResolvesItem before item code → AreWorded code.block
item_worded before (outside name arity) code r = absurd r
item_worded before (helper name params body) code r = block_worded _ 0 body.block code.block r.statements
item_worded before (entry name params body) code r = block_worded _ 0 body.block code.block r.statements

-- the literals of a procedure of a resolution
pub code_worded : (program : Resolution) (n : ℕ) (code : Code) → IsResolution program → slice_get program.codes n ≡ Some code → AreWorded (code_of code).block
code_worded program n code is at = let c = is.resolves n code at in item_worded c.before c.item (code_of code) c.resolves
