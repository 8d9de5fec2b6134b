-- A resolved procedure as the definitions see it: a tree, whose blocks are lists of statements.
use Rattle.std.specs.Prelude.{ℕ, ℤ, List}
use Rattle.vmv_snapshot.specs.declared.code.Slot.{Slot}
use Rattle.vmv_snapshot.specs.declared.code.ProcId.{ProcId}
use Rattle.vmv_snapshot.specs.declared.code.CodeOperand.{CodeOperand}
use Rattle.vmv_snapshot.specs.declared.code.CodeTest.{CodeTest}
use Rattle.vmv_snapshot.specs.declared.code.Simple.{Simple}

infixr 67 ◌⨾◌
mutual
  pub data Stmt : Type 0 where
    plain : Simple → Stmt
    help : (to : Slot) (callee : ProcId) (args : List CodeOperand) → Stmt
    branch : (test : CodeTest) (first second : Block) → Stmt
    loop : (index slot : Slot) (bound : CodeOperand) (most : ℤ) (site : ℕ) (body : Block) → Stmt

  pub data Block : Type 0 where
    [] : Block
    ◌⨾◌ : Stmt → Block → Block

-- the number of its slots, its statements, and the operand that it returns
pub record Body : Type 0 where
  pub vars : ℕ
  pub block : Block
  pub output : CodeOperand
