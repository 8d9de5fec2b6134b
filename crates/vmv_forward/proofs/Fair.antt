-- The literals of resolved statements are words, and the numbers of their sites are 1 or more.
use Rattle.std.proofs.Common.{◌≡◌, ℕ, zero, suc, ◌+◌, ◌≤◌, Some, List, [], ◌∷◌, slice_get, sym, subst, arith}
use Rattle.std.specs.Prelude.{⊤}
use Rattle.std.specs.List.{All}
use Rattle.vmv_tree.specs.Words.{IsWord}
use Rattle.vmv_tree.specs.declared.tree.Operand.{Operand}
use Rattle.vmv_tree.specs.declared.tree.Operand.TheVariants.{Lit, Var}
use Rattle.vmv_tree.specs.Tree.{Stmt, copy, compute, call, assert, choose, repeat, Block, [], ◌⨾◌, Item, outside, helper, entry}
use Rattle.vmv_tree.specs.Run.{sites, block_sites}
use Rattle.vmv_snapshot.specs.declared.code.CodeOperand.{CodeOperand}
use Rattle.vmv_snapshot.specs.declared.code.CodeOperand.TheVariants.{Lit, Var}
use Rattle.vmv_snapshot.specs.declared.code.Simple.TheVariants.{Set, Arith, Ask, Assert}
use Rattle.vmv_snapshot.specs.declared.code.Code.{Code}
use Rattle.vmv_snapshot.specs.Code.{Stmt as CodeStmt, plain, help, branch, loop, Block as CodeBlock, [], ◌⨾◌, Body as CodeBody}
use Rattle.vmv_snapshot.specs.View.{code_of}
use Rattle.vmv_snapshot.specs.Resolves.{Scope, Resolves, ResolvesAll, ResolvesOperand, ResolvesArgs, ResolvesItem}
use Rattle.vmv_snapshot.specs.Resolution.{Resolution, IsResolution}
use Rattle.vmv_step.specs.Agree.{IsWordOperand, HasWords, HasSite}

-- each literal in a simple statement is a word, and each site has a number from 1
abbrev mutual
  pub IsFair : CodeStmt → Type 0
  IsFair (plain simple) = HasWords simple × ((n : ℕ) → HasSite simple n → 1 ≤ n)
  IsFair (help to callee args) = ⊤
  IsFair (branch test first second) = AreFair first × AreFair second
  IsFair (loop index slot bound most site body) = (1 ≤ site) × AreFair body

  pub AreFair : CodeBlock → Type 0
  AreFair [] = ⊤
  AreFair (s ⨾ rest) = IsFair s × AreFair rest

operand_fair : (scope : Scope) (o : Operand) (c : CodeOperand) → ResolvesOperand scope o c → IsWordOperand c
operand_fair scope (Lit w) (Lit u) r = subst IsWord (sym r.0) r.1
operand_fair scope (Lit w) (Var n) r = absurd r
operand_fair scope (Var x) (Lit u) r = absurd r
operand_fair scope (Var x) (Var n) r = tt

args_fair : (scope : Scope) (args : List Operand) (codes : List CodeOperand) → ResolvesArgs scope args codes → All IsWordOperand codes
args_fair scope [] [] res k d h = absurd (omega arith)
args_fair scope [] (c ∷ codes) res k d h = absurd res
args_fair scope (o ∷ args) [] res k d h = absurd res
args_fair scope (o ∷ args) (c ∷ codes) res zero d h = operand_fair scope o c res.0
args_fair scope (o ∷ args) (c ∷ codes) res (suc k) d h = args_fair scope args codes res.1 k d (omega (arith, h))

from_one : (k n site : ℕ) → site ≡ n → site ≡ k + 1 → 1 ≤ n
from_one k n site e f = omega arith

mutual
  unfolding Resolves

  stmt_fair : (scope : Scope) (k : ℕ) (s : Stmt) (c : CodeStmt) → Resolves scope k s c → IsFair c
  stmt_fair scope k (copy to from) (plain (Set slot code)) r = (operand_fair scope from code r.1, λ n h. absurd h)
  stmt_fair scope k (compute to op left right) (plain (Arith slot same a b site)) r = ((operand_fair scope left a r.2, operand_fair scope right b r.3), λ n h. from_one k n site h r.4)
  stmt_fair scope k (call to callee args) (plain (Ask slot name codes)) r = (args_fair scope args codes r.3, λ n h. absurd h)
  stmt_fair scope k (call to callee args) (help slot proc codes) r = tt
  stmt_fair scope k (assert test) (plain (Assert code site)) r = ((operand_fair scope test.left code.left r.0.0, operand_fair scope test.right code.right r.0.2), λ n h. from_one k n site h r.1)
  stmt_fair scope k (choose test first second) (branch code one other) r = (block_fair scope k first one r.1, block_fair scope (k + block_sites first) second other r.2)
  stmt_fair scope k (repeat index bound most body) (loop slot next code cap site inside) r = (from_one k site site (let e : site ≡ site = omega arith in e) r.5, block_fair scope (k + 1) body inside r.6)
  stmt_fair scope k s c r = absurd r

  block_fair : (scope : Scope) (k : ℕ) (b : Block) (c : CodeBlock) → ResolvesAll scope k b c → AreFair c
  block_fair scope k [] [] r = tt
  block_fair scope k (s ⨾ rest) (c ⨾ codes) r = (stmt_fair scope k s c r.0, block_fair scope (k + sites s) rest codes r.1)
  block_fair scope k b c r = absurd r

item_fair : (before : List Item) (item : Item) (code : CodeBody) → ResolvesItem before item code → AreFair code.block
item_fair before (outside name arity) code r = absurd r
item_fair before (helper name params body) code r = block_fair _ 0 body.block code.block r.statements
item_fair before (entry name params body) code r = block_fair _ 0 body.block code.block r.statements

-- the code of a procedure of a resolution
pub code_fair : (program : Resolution) (n : ℕ) (code : Code) → IsResolution program → slice_get program.codes n ≡ Some code → AreFair (code_of code).block
code_fair program n code is at = let c = is.resolves n code at in item_fair c.before c.item (code_of code) c.resolves
