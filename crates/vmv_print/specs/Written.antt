-- Programs that can be written: what stands in them are names, words and counts.
use Rattle.std.specs.Prelude.{◌^◌, ◌<◌, ℤ, pos, negsuc, List, All, IsTrue}
use Rattle.vmv_tree.specs.Names.{is_name}
use Rattle.vmv_tree.specs.Words.{IsWord}
use Rattle.vmv_tree.specs.declared.name.Name.{Name}
use Rattle.vmv_tree.specs.declared.tree.Operand.{Operand}
use Rattle.vmv_tree.specs.declared.tree.Operand.TheVariants.{Lit, Var}
use Rattle.vmv_tree.specs.declared.tree.Test.{Test}
use Rattle.vmv_tree.specs.declared.tree.Param.{Param}
use Rattle.vmv_tree.specs.Tree.{Stmt, copy, compute, call, assert, choose, repeat, Block, [], ◌⨾◌, Body, Item, outside, helper, entry}

abbrev pub IsName : Name → Type 0
IsName x = IsTrue (is_name x)

-- 0 or more, and a word
abbrev pub IsCount : ℤ → Type 0
IsCount (pos n) = n < 2 ^ 63
IsCount (negsuc n) = ⊥

abbrev pub IsWrittenOperand : Operand → Type 0
IsWrittenOperand (Lit z) = IsWord z
IsWrittenOperand (Var x) = IsName x

abbrev pub IsWrittenTest : Test → Type 0
IsWrittenTest test = IsWrittenOperand test.left × IsWrittenOperand test.right

abbrev pub IsWrittenParam : Param → Type 0
IsWrittenParam p = IsName p.name × IsWord p.lo × IsWord p.hi

unfoldable mutual
  pub IsWrittenStmt : Stmt → Type 0
  IsWrittenStmt (copy to from) = IsName to × IsWrittenOperand from
  IsWrittenStmt (compute to op left right) = IsName to × IsWrittenOperand left × IsWrittenOperand right
  IsWrittenStmt (call to callee args) = IsName to × IsName callee × All IsWrittenOperand args
  IsWrittenStmt (assert test) = IsWrittenTest test
  IsWrittenStmt (choose test first second) = IsWrittenTest test × IsWrittenBlock first × IsWrittenBlock second
  IsWrittenStmt (repeat index bound most body) = IsName index × IsWrittenOperand bound × IsCount most × IsWrittenBlock body

  pub IsWrittenBlock : Block → Type 0
  IsWrittenBlock [] = Unit {0}
  IsWrittenBlock (s ⨾ block) = IsWrittenStmt s × IsWrittenBlock block

abbrev pub IsWrittenBody : Body → Type 0
IsWrittenBody body = All IsName body.vars × IsWrittenBlock body.block × IsWrittenOperand body.output

abbrev pub IsWrittenItem : Item → Type 0
IsWrittenItem (outside f arity) = IsName f × IsCount arity
IsWrittenItem (helper f params body) = IsName f × All IsName params × IsWrittenBody body
IsWrittenItem (entry f params body) = IsName f × All IsWrittenParam params × IsWrittenBody body

unfoldable mutual
  -- each cap in it is a count
  pub HasCountsStmt : Stmt → Type 0
  HasCountsStmt (copy to from) = Unit {0}
  HasCountsStmt (compute to op left right) = Unit {0}
  HasCountsStmt (call to callee args) = Unit {0}
  HasCountsStmt (assert test) = Unit {0}
  HasCountsStmt (choose test first second) = HasCountsBlock first × HasCountsBlock second
  HasCountsStmt (repeat index bound most body) = IsCount most × HasCountsBlock body

  pub HasCountsBlock : Block → Type 0
  HasCountsBlock [] = Unit {0}
  HasCountsBlock (s ⨾ block) = HasCountsStmt s × HasCountsBlock block

abbrev pub HasCountsItem : Item → Type 0
HasCountsItem (outside f arity) = IsCount arity
HasCountsItem (helper f params body) = HasCountsBlock body.block
HasCountsItem (entry f params body) = HasCountsBlock body.block

-- each arity and each cap is a count
abbrev pub HasCounts : List Item → Type 0
HasCounts program = All HasCountsItem program

-- each name is one, each literal and each end of a range is a word, and each arity and each cap is a count
abbrev pub IsWritten : List Item → Type 0
IsWritten program = All IsWrittenItem program
