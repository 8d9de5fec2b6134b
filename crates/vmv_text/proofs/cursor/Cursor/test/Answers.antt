use Rattle.std.proofs.lemmas.Result.{err_from_is_err_and}
use Rattle.vmv_tree.specs.declared.tree.Operand.{Operand}
use Rattle.vmv_tree.specs.declared.tree.Rel.{Rel}
use Rattle.vmv_tree.specs.declared.tree.Test.{Test}
use Rattle.vmv_text.specs.Grammar.{IsOperand}
use Rattle.vmv_text.specs.Reading.{Any, IsRel}
use Rattle.vmv_text.proofs.Steps.{step, failed, failed_last, done, open_then}
use Rattle.vmv_text.proofs.Single.{test-parts, open_rel, open_operand}
use Rattle.vmv_text.proofs.cursor.Cursor.test.Goals as goal

pub returns-in_err-left : goal.returns-in_err-left
returns-in_err-left c =
    let p = err_from_is_err_and c.from_residual.result c.from_residual.ensures.1 in
    rw (p.1, p.2)
    (failed _ IsOperand _ Any Any _ (λ (x : Operand). x) (λ (x : Test). x) c.in_err-left.field-0.0 _ _ c.operand.new.self
    (test-parts _)
    c.in_err-left.ensures (λ y q rest ok k. tt)
    (open_then _ _ open_rel open_operand))

pub returns-in_err-rel : goal.returns-in_err-rel
returns-in_err-rel c =
    let p = err_from_is_err_and c.from_residual-in_err-rel.result c.from_residual-in_err-rel.ensures.1 in
    rw (p.1, p.2)
    (failed _ IsRel _ Any Any _ (λ (x : Rel). x) (λ (x : Test). x) c.in_err-rel.field-0.0 _ _ c.rel.new.self
    (step _ _ _ Any Any _ c.in_ok-left.left _ _ _
    (test-parts _)
    c.in_ok-left.ensures (λ y q rest ok k. tt))
    c.in_err-rel.ensures (λ y q rest ok k. tt)
    open_operand)

pub returns-in_err-right : goal.returns-in_err-right
returns-in_err-right c =
    let p = err_from_is_err_and c.from_residual-in_err-right.result c.from_residual-in_err-right.ensures.1 in
    rw (p.1, p.2)
    (failed_last _ IsOperand Any _ (λ (x : Operand). x) (λ (x : Test). x) c.in_err-right.field-0.0 _ _ c.operand-2.new.self
    (step _ _ _ Any Any _ c.in_ok-rel.rel _ _ _
    (step _ _ _ Any Any _ c.in_ok-left.left _ _ _
    (test-parts _)
    c.in_ok-left.ensures (λ y q rest ok k. tt))
    c.in_ok-rel.ensures (λ y q rest ok k. tt))
    c.in_err-right.ensures)

pub returns : goal.returns
returns c =
    done _ _ Any _ c.in_ok-right.right _ _ _
    (step _ _ _ Any Any _ c.in_ok-rel.rel _ _ _
    (step _ _ _ Any Any _ c.in_ok-left.left _ _ _
    (test-parts _)
    c.in_ok-left.ensures (λ y q rest ok k. tt))
    c.in_ok-rel.ensures (λ y q rest ok k. tt))
    c.in_ok-right.ensures
