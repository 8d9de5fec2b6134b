use Rattle.std.proofs.Common.{refl}
use Rattle.std.proofs.lemmas.Result.{err_from_is_err_and}
use Rattle.vmv_tree.specs.View.{item_of}
use Rattle.vmv_text.proofs.cursor.Cursor.outside_part.Goals as goal

pub returns-in_err-item : goal.returns-in_err-item
returns-in_err-item c =
    let p = err_from_is_err_and c.from_residual.result c.from_residual.ensures.1 in
    rw (p.1, p.2) c.in_err-item.ensures

pub returns : goal.returns
returns c = (item_of c.in_ok-item.item, refl, c.in_ok-item.ensures)
