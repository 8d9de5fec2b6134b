use Rattle.std.proofs.lemmas.Result.{err_from_is_err_and}
use Rattle.vmv_proof_read.proofs.ShownSteps.{start, on_1, on_2, on_3, on_4, off_1, off_2, off_3, off_4, whole}
use Rattle.vmv_proof_read.proofs.proof.read_shown.Goals as goal

pub returns-in_err-entry : goal.returns-in_err-entry
returns-in_err-entry c =
    let p = err_from_is_err_and c.from_residual.result c.from_residual.ensures.1 in
    rw (p.1, p.2) (off_1 c.args.lines.now c.args.lines.now c.take_plain.new.self c.in_err-entry.field-0.0 (start c.args.lines.now) c.in_err-entry.ensures)

pub returns-in_err-plain : goal.returns-in_err-plain
returns-in_err-plain c =
    let p = err_from_is_err_and c.from_residual-in_err-plain.result c.from_residual-in_err-plain.ensures.1 in
    let w1 = on_1 c.args.lines.now c.args.lines.now c.take_plain.new.self c.in_ok-entry.entry (start c.args.lines.now) c.in_ok-entry.ensures in
    rw (p.1, p.2) (off_2 c.args.lines.now c.take_plain.new.self c.read_table.new.lines c.in_ok-entry.entry c.in_err-plain.field-0.0 w1 c.in_err-plain.ensures)

pub returns-in_err-take_given : goal.returns-in_err-take_given
returns-in_err-take_given c =
    let p = err_from_is_err_and c.from_residual-in_err-take_given.result c.from_residual-in_err-take_given.ensures.1 in
    let w1 = on_1 c.args.lines.now c.args.lines.now c.take_plain.new.self c.in_ok-entry.entry (start c.args.lines.now) c.in_ok-entry.ensures in
    let w2 = on_2 c.args.lines.now c.take_plain.new.self c.read_table.new.lines c.in_ok-entry.entry c.in_ok-plain.plain w1 c.in_ok-plain.ensures in
    rw (p.1, p.2) (off_3 c.args.lines.now c.read_table.new.lines c.take_given.new.self c.in_ok-entry.entry c.in_ok-plain.plain c.in_err-take_given.field-0.0 w2 c.in_err-take_given.ensures)

pub returns-in_err-given : goal.returns-in_err-given
returns-in_err-given c =
    let p = err_from_is_err_and c.from_residual-in_err-given.result c.from_residual-in_err-given.ensures.1 in
    let w1 = on_1 c.args.lines.now c.args.lines.now c.take_plain.new.self c.in_ok-entry.entry (start c.args.lines.now) c.in_ok-entry.ensures in
    let w2 = on_2 c.args.lines.now c.take_plain.new.self c.read_table.new.lines c.in_ok-entry.entry c.in_ok-plain.plain w1 c.in_ok-plain.ensures in
    let w3 = on_3 c.args.lines.now c.read_table.new.lines c.take_given.new.self c.in_ok-entry.entry c.in_ok-plain.plain tt w2 c.in_ok-take_given.ensures in
    rw (p.1, p.2) (off_4 c.args.lines.now c.take_given.new.self c.read_table-2.new.lines c.in_ok-entry.entry c.in_ok-plain.plain tt c.in_err-given.field-0.0 w3 c.in_err-given.ensures)

pub returns : goal.returns
returns c =
    let w1 = on_1 c.args.lines.now c.args.lines.now c.take_plain.new.self c.in_ok-entry.entry (start c.args.lines.now) c.in_ok-entry.ensures in
    let w2 = on_2 c.args.lines.now c.take_plain.new.self c.read_table.new.lines c.in_ok-entry.entry c.in_ok-plain.plain w1 c.in_ok-plain.ensures in
    let w3 = on_3 c.args.lines.now c.read_table.new.lines c.take_given.new.self c.in_ok-entry.entry c.in_ok-plain.plain tt w2 c.in_ok-take_given.ensures in
    let w4 = on_4 c.args.lines.now c.take_given.new.self c.read_table-2.new.lines c.in_ok-entry.entry c.in_ok-plain.plain tt c.in_ok-given.given w3 c.in_ok-given.ensures in
    whole c.args.lines.now c.read_table-2.new.lines c.in_ok-entry.entry c.in_ok-plain.plain tt c.in_ok-given.given w4
