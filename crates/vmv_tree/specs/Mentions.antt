-- Mentions: the places of a program at which a name stands, numbered from 0 in text order.
use Rattle.std.specs.Prelude.{ℕ, ◌+◌, List, [], ◌∷◌, length}
use Rattle.vmv_tree.specs.declared.tree.Operand.{Operand}
use Rattle.vmv_tree.specs.declared.tree.Operand.TheVariants.{Lit, Var}
use Rattle.vmv_tree.specs.declared.tree.Test.{Test}
use Rattle.vmv_tree.specs.Tree.{Stmt, copy, compute, call, assert, choose, repeat, Block, [], ◌⨾◌, Body, Item, outside, helper, entry}

abbrev pub operand_mentions : Operand → ℕ
operand_mentions (Lit word) = 0
operand_mentions (Var name) = 1

abbrev pub test_mentions : Test → ℕ
test_mentions test = operand_mentions test.left + operand_mentions test.right

abbrev pub args_mentions : List Operand → ℕ
args_mentions [] = 0
args_mentions (o ∷ args) = operand_mentions o + args_mentions args

abbrev mutual
  pub mentions : Stmt → ℕ
  mentions (copy to from) = 1 + operand_mentions from
  mentions (compute to op left right) = 1 + operand_mentions left + operand_mentions right
  mentions (call to callee args) = 2 + args_mentions args
  mentions (assert test) = test_mentions test
  mentions (choose test first second) = test_mentions test + block_mentions first + block_mentions second
  mentions (repeat index bound most body) = 1 + operand_mentions bound + block_mentions body

  pub block_mentions : Block → ℕ
  block_mentions [] = 0
  block_mentions (s ⨾ rest) = mentions s + block_mentions rest

-- the variables, the statements, the returned operand
abbrev pub body_mentions : Body → ℕ
body_mentions body = length body.vars + block_mentions body.block + operand_mentions body.output

abbrev pub item_mentions : Item → ℕ
item_mentions (outside name arity) = 1
item_mentions (helper name params body) = 1 + length params + body_mentions body
item_mentions (entry name params body) = 1 + length params + body_mentions body
