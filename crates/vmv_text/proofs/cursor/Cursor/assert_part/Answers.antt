use Rattle.std.proofs.Common.{refl}
use Rattle.std.proofs.lemmas.Result.{err_from_is_err_and}
use Rattle.vmv_tree.specs.View.{stmt_of}
use Rattle.vmv_text.proofs.cursor.Cursor.assert_part.Goals as goal

pub returns-in_err-stmt : goal.returns-in_err-stmt
returns-in_err-stmt c =
    let p = err_from_is_err_and c.from_residual.result c.from_residual.ensures.1 in
    λ least. rw (p.1, p.2) c.in_err-stmt.ensures

pub returns : goal.returns
returns c = λ least. (stmt_of c.in_ok-stmt.stmt, refl, c.in_ok-stmt.ensures)
