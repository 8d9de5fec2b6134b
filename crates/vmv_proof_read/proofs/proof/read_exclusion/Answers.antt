use Rattle.std.proofs.lemmas.Result.{err_from_is_err_and}
use Rattle.vmv_proof_read.proofs.ExclusionSteps.{start, on_1, on_2, on_3, off_1, off_2, off_3, whole}
use Rattle.vmv_proof_read.proofs.proof.read_exclusion.Goals as goal

pub returns-in_err-head : goal.returns-in_err-head
returns-in_err-head c =
    let p = err_from_is_err_and c.from_residual.result c.from_residual.ensures.1 in
    rw (p.1, p.2) (off_1 c.args.lines.now c.args.lines.now c.take_exclude.new.self c.in_err-head.field-0.0 (start c.args.lines.now) c.in_err-head.ensures)

pub returns-in_err-within : goal.returns-in_err-within
returns-in_err-within c =
    let p = err_from_is_err_and c.from_residual-in_err-within.result c.from_residual-in_err-within.ensures.1 in
    let w1 = on_1 c.args.lines.now c.args.lines.now c.take_exclude.new.self c.in_ok-head.head (start c.args.lines.now) c.in_ok-head.ensures in
    rw (p.1, p.2) (off_2 c.args.lines.now c.take_exclude.new.self c.take_box.new.self c.in_ok-head.head c.in_err-within.field-0.0 w1 c.in_err-within.ensures)

pub returns-in_err-table : goal.returns-in_err-table
returns-in_err-table c =
    let p = err_from_is_err_and c.from_residual-in_err-table.result c.from_residual-in_err-table.ensures.1 in
    let w1 = on_1 c.args.lines.now c.args.lines.now c.take_exclude.new.self c.in_ok-head.head (start c.args.lines.now) c.in_ok-head.ensures in
    let w2 = on_2 c.args.lines.now c.take_exclude.new.self c.take_box.new.self c.in_ok-head.head c.in_ok-within.within w1 c.in_ok-within.ensures in
    rw (p.1, p.2) (off_3 c.args.lines.now c.take_box.new.self c.read_table.new.lines c.in_ok-head.head c.in_ok-within.within c.in_err-table.field-0.0 w2 c.in_err-table.ensures)

pub returns : goal.returns
returns c =
    let w1 = on_1 c.args.lines.now c.args.lines.now c.take_exclude.new.self c.in_ok-head.head (start c.args.lines.now) c.in_ok-head.ensures in
    let w2 = on_2 c.args.lines.now c.take_exclude.new.self c.take_box.new.self c.in_ok-head.head c.in_ok-within.within w1 c.in_ok-within.ensures in
    let w3 = on_3 c.args.lines.now c.take_box.new.self c.read_table.new.lines c.in_ok-head.head c.in_ok-within.within c.in_ok-table.table w2 c.in_ok-table.ensures in
    whole c.args.lines.now c.read_table.new.lines c.in_ok-head.head c.in_ok-within.within c.in_ok-table.table w3
