use Rattle.std.proofs.lemmas.Result.{err_from_is_err_and}
use Rattle.vmv_proof_read.proofs.TableSteps.{start, on_1, on_2, off_1, off_2, whole}
use Rattle.vmv_proof_read.proofs.tables.read_table.Goals as goal

pub returns-in_err-count : goal.returns-in_err-count
returns-in_err-count c =
    let p = err_from_is_err_and c.from_residual.result c.from_residual.ensures.1 in
    rw (p.1, p.2) (off_1 c.args.lines.now c.args.lines.now c.take_table.new.self c.in_err-count.field-0.0 (start c.args.lines.now) c.in_err-count.ensures)

pub returns-in_err-rows : goal.returns-in_err-rows
returns-in_err-rows c =
    let p = err_from_is_err_and c.from_residual-in_err-rows.result c.from_residual-in_err-rows.ensures.1 in
    let w1 = on_1 c.args.lines.now c.args.lines.now c.take_table.new.self c.in_ok-count.count (start c.args.lines.now) c.in_ok-count.ensures in
    rw (p.1, p.2) (off_2 c.args.lines.now c.take_table.new.self c.read_rows.new.lines c.in_ok-count.count c.in_err-rows.field-0.0 w1 c.in_err-rows.ensures)

pub returns : goal.returns
returns c =
    let w1 = on_1 c.args.lines.now c.args.lines.now c.take_table.new.self c.in_ok-count.count (start c.args.lines.now) c.in_ok-count.ensures in
    let w2 = on_2 c.args.lines.now c.take_table.new.self c.read_rows.new.lines c.in_ok-count.count c.in_ok-rows.rows w1 c.in_ok-rows.ensures in
    whole c.args.lines.now c.read_rows.new.lines c.in_ok-count.count c.in_ok-rows.rows c.in_ok-rows.ensures.0 w2
