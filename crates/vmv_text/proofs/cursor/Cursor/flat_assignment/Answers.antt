use Rattle.std.proofs.lemmas.Result.{err_from_is_err_and}
use Rattle.vmv_tree.specs.Tree.{Stmt}
use Rattle.vmv_tree.specs.View.{stmt_of}
use Rattle.vmv_text.specs.declared.token.Token.TheVariants.{Named}
use Rattle.vmv_text.specs.Reading.{Any, IsBehind}
use Rattle.vmv_text.specs.Pieces.{Piece, simple}
use Rattle.vmv_text.proofs.Steps.{failed_last, done}
use Rattle.vmv_text.proofs.Pieces.{named-piece}
use Rattle.vmv_text.proofs.cursor.Cursor.flat_assignment.Goals as goal

pub returns-in_err-_stmt : goal.returns-in_err-_stmt
returns-in_err-_stmt c =
    let p = err_from_is_err_and c.from_residual.result c.from_residual.ensures.1 in
    rw (p.1, p.2)
    (failed_last _ (IsBehind (Named c.args.to)) Any _ (λ (s : Stmt). s) (λ (piece : Piece). piece) c.in_err-_stmt.field-0.0 _ _ c.assignment.new.self (named-piece c.args.to _) c.in_err-_stmt.ensures)

pub returns : goal.returns
returns c =
    (simple (stmt_of c.in_ok-_stmt._stmt), tt, done _ (IsBehind (Named c.args.to)) Any _ (stmt_of c.in_ok-_stmt._stmt) _ _ _ (named-piece c.args.to _) c.in_ok-_stmt.ensures)
