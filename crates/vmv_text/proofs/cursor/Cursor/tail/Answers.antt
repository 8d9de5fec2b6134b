use Rattle.std.proofs.Common.{Option}
use Rattle.std.proofs.lemmas.Result.{err_from_is_err_and}
use Rattle.vmv_tree.specs.declared.tree.Operand.{Operand}
use Rattle.vmv_tree.specs.declared.tree.Op.{Op}
use Rattle.vmv_text.specs.declared.token.Token.TheVariants.{Semicolon}
use Rattle.vmv_text.specs.Grammar.{IsOperand}
use Rattle.vmv_text.specs.Reading.{Any, IsOp, IsToken}
use Rattle.vmv_text.proofs.Steps.{step, failed, failed_last, done, open_then, open_token}
use Rattle.vmv_text.proofs.Single.{open_operand}
use Rattle.vmv_text.proofs.Assignments.{tail-end, tail-parts}
use Rattle.vmv_text.proofs.cursor.Cursor.tail.Goals as goal

pub returns-then-takes : goal.returns-then-takes
returns-then-takes c = tail-end _ _ c.if-takes.ensures.tests

pub returns-in_err-op : goal.returns-in_err-op
returns-in_err-op c =
    let p = err_from_is_err_and c.from_residual.result c.from_residual.ensures.1 in
    rw (p.1, p.2)
    (failed _ IsOp _ Any Any _ (λ (x : Op). x) (λ (x : Option (Op × Operand)). x) c.in_err-op.field-0.0 _ _ c.op.new.self
    (tail-parts _ _ c.if-takes.ensures.tests)
    c.in_err-op.ensures (λ y q rest ok k. tt)
    (open_then _ _ open_operand (open_token Semicolon)))

pub returns-in_err-right : goal.returns-in_err-right
returns-in_err-right c =
    let p = err_from_is_err_and c.from_residual-in_err-right.result c.from_residual-in_err-right.ensures.1 in
    rw (p.1, p.2)
    (failed _ IsOperand _ Any Any _ (λ (x : Operand). x) (λ (x : Option (Op × Operand)). x) c.in_err-right.field-0.0 _ _ c.operand.new.self
    (step _ _ _ Any Any _ c.in_ok-op.op _ _ _
    (tail-parts _ _ c.if-takes.ensures.tests)
    c.in_ok-op.ensures (λ y q rest ok k. tt))
    c.in_err-right.ensures (λ y q rest ok k. tt)
    (open_token Semicolon))

pub returns-in_err-expect : goal.returns-in_err-expect
returns-in_err-expect c =
    let p = err_from_is_err_and c.from_residual-in_err-expect.result c.from_residual-in_err-expect.ensures.1 in
    rw (p.1, p.2)
    (failed_last _ (IsToken Semicolon) Any _ (λ (x : Unit {0}). x) (λ (x : Option (Op × Operand)). x) c.in_err-expect.field-0.0 _ _ c.expect.new.self
    (step _ _ _ Any Any _ c.in_ok-right.right _ _ _
    (step _ _ _ Any Any _ c.in_ok-op.op _ _ _
    (tail-parts _ _ c.if-takes.ensures.tests)
    c.in_ok-op.ensures (λ y q rest ok k. tt))
    c.in_ok-right.ensures (λ y q rest ok k. tt))
    c.in_err-expect.ensures.reads)

pub returns : goal.returns
returns c =
    done _ _ Any _ tt _ _ _
    (step _ _ _ Any Any _ c.in_ok-right.right _ _ _
    (step _ _ _ Any Any _ c.in_ok-op.op _ _ _
    (tail-parts _ _ c.if-takes.ensures.tests)
    c.in_ok-op.ensures (λ y q rest ok k. tt))
    c.in_ok-right.ensures (λ y q rest ok k. tt))
    c.in_ok-expect.ensures.reads
