-- The tree of a resolved procedure that code holds.
use Rattle.std.specs.Prelude.{◌≡◌, ℕ, ℤ, List, [], ◌∷◌}
use Rattle.std.proofs.Common.{refl, ap, ◌∙◌}
use Rattle.vmv_snapshot.specs.declared.code.Slot.{Slot}
use Rattle.vmv_snapshot.specs.declared.code.ProcId.{ProcId}
use Rattle.vmv_snapshot.specs.declared.code.CodeOperand.{CodeOperand}
use Rattle.vmv_snapshot.specs.declared.code.CodeTest.{CodeTest}
use Rattle.vmv_snapshot.specs.declared.code.Simple.{Simple}
use Rattle.vmv_snapshot.specs.declared.code.CodeStmt.{CodeStmt, Plain, Help, If', Repeat', If, Repeat, Row_of-CodeStmt, end_of-CodeStmt, more_of-CodeStmt, items-the_row-CodeStmt, items_hidden-the_row-CodeStmt-0}
use Rattle.vmv_snapshot.specs.declared.code.CodeRepeat.{CodeRepeat}
use Rattle.vmv_snapshot.specs.declared.code.CodeStmt.TheBlock.{hidden-the_row-CodeStmt-0}
use Rattle.vmv_snapshot.specs.declared.code.Code.{Code}
use Rattle.vmv_snapshot.specs.Code as code
use Rattle.vmv_snapshot.specs.Code.{[], ◌⨾◌}

unfoldable mutual
  pub stmt_of : CodeStmt → code.Stmt
  stmt_of (Plain simple) = code.plain simple
  stmt_of (Help to callee args) = code.help to callee args
  stmt_of (If' test n first m second) = code.branch test (row_of first) (row_of second)
  stmt_of (Repeat' index slot bound cap site n body) = code.loop index slot bound cap site (row_of body)

  -- how a block lies in a statement
  pub row_of : {n : _} → Row_of-CodeStmt n → code.Block
  row_of end_of-CodeStmt = []
  row_of (more_of-CodeStmt s rest) = stmt_of s ⨾ row_of rest

abbrev pub block_of : List CodeStmt → code.Block
block_of [] = []
block_of (s ∷ rest) = stmt_of s ⨾ block_of rest

row_of-items : {n : _} (row : Row_of-CodeStmt n) → row_of row ≡ block_of (items-the_row-CodeStmt n row)
unfolding row_of
row_of-items end_of-CodeStmt = refl
row_of-items (more_of-CodeStmt s rest) = ap (λ b. stmt_of s ⨾ b) (row_of-items rest)

row_of-hidden : (block : List CodeStmt) → row_of (hidden-the_row-CodeStmt-0 block) ≡ block_of block
row_of-hidden block = row_of-items (hidden-the_row-CodeStmt-0 block) ∙ ap block_of (items_hidden-the_row-CodeStmt-0 block)

pub stmt_of-plain : (simple : Simple) → stmt_of (Plain simple) ≡ code.plain simple
unfolding stmt_of
stmt_of-plain simple = refl

pub stmt_of-help : (to : Slot) (callee : ProcId) (args : List CodeOperand) → stmt_of (Help to callee args) ≡ code.help to callee args
unfolding stmt_of
stmt_of-help to callee args = refl

pub stmt_of-if : (test : CodeTest) (first second : List CodeStmt) → stmt_of (If test first second) ≡ code.branch test (block_of first) (block_of second)
unfolding stmt_of
stmt_of-if test first second = λ i. code.branch test (row_of-hidden first i) (row_of-hidden second i)

pub stmt_of-repeat : (index slot : Slot) (bound : CodeOperand) (cap : ℤ) (site : ℕ) (body : List CodeStmt) → stmt_of (Repeat (record { index = index; slot = slot; bound = bound; cap = cap; site = site; body = body })) ≡ code.loop index slot bound cap site (block_of body)
unfolding stmt_of
stmt_of-repeat index slot bound cap site body = ap (code.loop index slot bound cap site) (row_of-hidden body)

pub ruleset views = (stmt_of-plain, stmt_of-help, stmt_of-if, stmt_of-repeat)

-- the tree of a resolved procedure
abbrev pub code_of : Code → code.Body
code_of code = record { vars = code.vars; block = block_of code.block; output = code.result }
