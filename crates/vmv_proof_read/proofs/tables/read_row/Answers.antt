use Rattle.std.proofs.lemmas.Result.{err_from_is_err_and}
use Rattle.vmv_proof_read.proofs.RowSteps.{start, on_1, on_2, on_3, on_4, on_5, off_1, off_2, off_3, off_4, off_5, whole}
use Rattle.vmv_proof_read.proofs.tables.read_row.Goals as goal

pub returns-in_err-head : goal.returns-in_err-head
returns-in_err-head c =
    let p = err_from_is_err_and c.from_residual.result c.from_residual.ensures.1 in
    rw (p.1, p.2) (off_1 c.args.lines.now c.args.lines.now c.take_row.new.self c.in_err-head.field-0.0 (start c.args.lines.now) c.in_err-head.ensures)

pub returns-in_err-input : goal.returns-in_err-input
returns-in_err-input c =
    let p = err_from_is_err_and c.from_residual-in_err-input.result c.from_residual-in_err-input.ensures.1 in
    let w1 = on_1 c.args.lines.now c.args.lines.now c.take_row.new.self c.in_ok-head.head (start c.args.lines.now) c.in_ok-head.ensures in
    rw (p.1, p.2) (off_2 c.args.lines.now c.take_row.new.self c.take_input.new.self c.in_ok-head.head c.in_err-input.field-0.0 w1 c.in_err-input.ensures)

pub returns-in_err-keeps : goal.returns-in_err-keeps
returns-in_err-keeps c =
    let p = err_from_is_err_and c.from_residual-in_err-keeps.result c.from_residual-in_err-keeps.ensures.1 in
    let w1 = on_1 c.args.lines.now c.args.lines.now c.take_row.new.self c.in_ok-head.head (start c.args.lines.now) c.in_ok-head.ensures in
    let w2 = on_2 c.args.lines.now c.take_row.new.self c.take_input.new.self c.in_ok-head.head c.in_ok-input.input w1 c.in_ok-input.ensures in
    rw (p.1, p.2) (off_3 c.args.lines.now c.take_input.new.self c.read_keeps.new.lines c.in_ok-head.head c.in_ok-input.input c.in_err-keeps.field-0.0 w2 c.in_err-keeps.ensures)

pub returns-in_err-result : goal.returns-in_err-result
returns-in_err-result c =
    let p = err_from_is_err_and c.from_residual-in_err-result.result c.from_residual-in_err-result.ensures.1 in
    let w1 = on_1 c.args.lines.now c.args.lines.now c.take_row.new.self c.in_ok-head.head (start c.args.lines.now) c.in_ok-head.ensures in
    let w2 = on_2 c.args.lines.now c.take_row.new.self c.take_input.new.self c.in_ok-head.head c.in_ok-input.input w1 c.in_ok-input.ensures in
    let w3 = on_3 c.args.lines.now c.take_input.new.self c.read_keeps.new.lines c.in_ok-head.head c.in_ok-input.input c.in_ok-keeps.keeps w2 c.in_ok-keeps.ensures in
    rw (p.1, p.2) (off_4 c.args.lines.now c.read_keeps.new.lines c.take_result.new.self c.in_ok-head.head c.in_ok-input.input c.in_ok-keeps.keeps c.in_ok-keeps.ensures.0 c.in_err-result.field-0.0 w3 c.in_err-result.ensures)

pub returns-in_err-unproved : goal.returns-in_err-unproved
returns-in_err-unproved c =
    let p = err_from_is_err_and c.from_residual-in_err-unproved.result c.from_residual-in_err-unproved.ensures.1 in
    let w1 = on_1 c.args.lines.now c.args.lines.now c.take_row.new.self c.in_ok-head.head (start c.args.lines.now) c.in_ok-head.ensures in
    let w2 = on_2 c.args.lines.now c.take_row.new.self c.take_input.new.self c.in_ok-head.head c.in_ok-input.input w1 c.in_ok-input.ensures in
    let w3 = on_3 c.args.lines.now c.take_input.new.self c.read_keeps.new.lines c.in_ok-head.head c.in_ok-input.input c.in_ok-keeps.keeps w2 c.in_ok-keeps.ensures in
    let w4 = on_4 c.args.lines.now c.read_keeps.new.lines c.take_result.new.self c.in_ok-head.head c.in_ok-input.input c.in_ok-keeps.keeps c.in_ok-keeps.ensures.0 c.in_ok-result.result w3 c.in_ok-result.ensures in
    rw (p.1, p.2) (off_5 c.args.lines.now c.take_result.new.self c.take_left.new.self c.in_ok-head.head c.in_ok-input.input c.in_ok-keeps.keeps c.in_ok-keeps.ensures.0 c.in_ok-result.result c.in_err-unproved.field-0.0 w4 c.in_err-unproved.ensures)

pub returns : goal.returns
returns c =
    let w1 = on_1 c.args.lines.now c.args.lines.now c.take_row.new.self c.in_ok-head.head (start c.args.lines.now) c.in_ok-head.ensures in
    let w2 = on_2 c.args.lines.now c.take_row.new.self c.take_input.new.self c.in_ok-head.head c.in_ok-input.input w1 c.in_ok-input.ensures in
    let w3 = on_3 c.args.lines.now c.take_input.new.self c.read_keeps.new.lines c.in_ok-head.head c.in_ok-input.input c.in_ok-keeps.keeps w2 c.in_ok-keeps.ensures in
    let w4 = on_4 c.args.lines.now c.read_keeps.new.lines c.take_result.new.self c.in_ok-head.head c.in_ok-input.input c.in_ok-keeps.keeps c.in_ok-keeps.ensures.0 c.in_ok-result.result w3 c.in_ok-result.ensures in
    let w5 = on_5 c.args.lines.now c.take_result.new.self c.take_left.new.self c.in_ok-head.head c.in_ok-input.input c.in_ok-keeps.keeps c.in_ok-keeps.ensures.0 c.in_ok-result.result c.in_ok-unproved.unproved w4 c.in_ok-unproved.ensures in
    whole c.args.lines.now c.take_left.new.self c.in_ok-head.head c.in_ok-input.input c.in_ok-keeps.keeps c.in_ok-keeps.ensures.0 c.in_ok-result.result c.in_ok-unproved.unproved w5
