use Rattle.std.proofs.lemmas.Result.{err_from_is_err_and}
use Rattle.vmv_tree.specs.Tree.{Stmt}
use Rattle.vmv_tree.specs.View.{stmt_of}
use Rattle.vmv_text.specs.declared.token.Token.TheVariants.{AssertWord}
use Rattle.vmv_text.specs.Reading.{Any, IsBehind}
use Rattle.vmv_text.specs.Pieces.{Piece, simple}
use Rattle.vmv_text.proofs.Steps.{failed_last, done}
use Rattle.vmv_text.proofs.Pieces.{assert-piece}
use Rattle.vmv_text.proofs.cursor.Cursor.flat_assertion.Goals as goal

pub returns-in_err-_stmt : goal.returns-in_err-_stmt
returns-in_err-_stmt c =
    let p = err_from_is_err_and c.from_residual.result c.from_residual.ensures.1 in
    rw (p.1, p.2)
    (failed_last _ (IsBehind AssertWord) Any _ (λ (s : Stmt). s) (λ (piece : Piece). piece) c.in_err-_stmt.field-0.0 _ _ c.assertion.new.self (assert-piece _) c.in_err-_stmt.ensures)

pub returns : goal.returns
returns c =
    (simple (stmt_of c.in_ok-_stmt._stmt), tt, done _ (IsBehind AssertWord) Any _ (stmt_of c.in_ok-_stmt._stmt) _ _ _ (assert-piece _) c.in_ok-_stmt.ensures)
