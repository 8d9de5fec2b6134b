use Rattle.std.proofs.lemmas.Result.{err_from_is_err_and}
use Rattle.vmv_proof_read.proofs.ProofSteps.{start, on_1, on_2, on_3, on_4, on_5, on_6, off_1, off_2, off_3, off_4, off_5, off_6, whole}
use Rattle.vmv_proof_read.proofs.proof.read_lines.Goals as goal

pub returns-in_err-take_opening : goal.returns-in_err-take_opening
returns-in_err-take_opening c =
    let p = err_from_is_err_and c.from_residual.result c.from_residual.ensures.1 in
    rw (p.1, p.2) (off_1 c.args.lines.now c.args.lines.now c.take_opening.new.self c.in_err-take_opening.field-0.0 (start c.args.lines.now) c.in_err-take_opening.ensures)

pub returns-in_err-count : goal.returns-in_err-count
returns-in_err-count c =
    let p = err_from_is_err_and c.from_residual-in_err-count.result c.from_residual-in_err-count.ensures.1 in
    let w1 = on_1 c.args.lines.now c.args.lines.now c.take_opening.new.self tt (start c.args.lines.now) c.in_ok-take_opening.ensures in
    rw (p.1, p.2) (off_2 c.args.lines.now c.take_opening.new.self c.take_exclusions.new.self tt c.in_err-count.field-0.0 w1 c.in_err-count.ensures)

pub returns-in_err-exclusions : goal.returns-in_err-exclusions
returns-in_err-exclusions c =
    let p = err_from_is_err_and c.from_residual-in_err-exclusions.result c.from_residual-in_err-exclusions.ensures.1 in
    let w1 = on_1 c.args.lines.now c.args.lines.now c.take_opening.new.self tt (start c.args.lines.now) c.in_ok-take_opening.ensures in
    let w2 = on_2 c.args.lines.now c.take_opening.new.self c.take_exclusions.new.self tt c.in_ok-count.count w1 c.in_ok-count.ensures in
    rw (p.1, p.2) (off_3 c.args.lines.now c.take_exclusions.new.self c.read_exclusions.new.lines tt c.in_ok-count.count c.in_err-exclusions.field-0.0 w2 c.in_err-exclusions.ensures)

pub returns-in_err-entries : goal.returns-in_err-entries
returns-in_err-entries c =
    let p = err_from_is_err_and c.from_residual-in_err-entries.result c.from_residual-in_err-entries.ensures.1 in
    let w1 = on_1 c.args.lines.now c.args.lines.now c.take_opening.new.self tt (start c.args.lines.now) c.in_ok-take_opening.ensures in
    let w2 = on_2 c.args.lines.now c.take_opening.new.self c.take_exclusions.new.self tt c.in_ok-count.count w1 c.in_ok-count.ensures in
    let w3 = on_3 c.args.lines.now c.take_exclusions.new.self c.read_exclusions.new.lines tt c.in_ok-count.count c.in_ok-exclusions.exclusions w2 c.in_ok-exclusions.ensures in
    rw (p.1, p.2) (off_4 c.args.lines.now c.read_exclusions.new.lines c.take_entries.new.self tt c.in_ok-count.count c.in_ok-exclusions.exclusions c.in_ok-exclusions.ensures.0 c.in_err-entries.field-0.0 w3 c.in_err-entries.ensures)

pub returns-in_err-shown : goal.returns-in_err-shown
returns-in_err-shown c =
    let p = err_from_is_err_and c.from_residual-in_err-shown.result c.from_residual-in_err-shown.ensures.1 in
    let w1 = on_1 c.args.lines.now c.args.lines.now c.take_opening.new.self tt (start c.args.lines.now) c.in_ok-take_opening.ensures in
    let w2 = on_2 c.args.lines.now c.take_opening.new.self c.take_exclusions.new.self tt c.in_ok-count.count w1 c.in_ok-count.ensures in
    let w3 = on_3 c.args.lines.now c.take_exclusions.new.self c.read_exclusions.new.lines tt c.in_ok-count.count c.in_ok-exclusions.exclusions w2 c.in_ok-exclusions.ensures in
    let w4 = on_4 c.args.lines.now c.read_exclusions.new.lines c.take_entries.new.self tt c.in_ok-count.count c.in_ok-exclusions.exclusions c.in_ok-exclusions.ensures.0 c.in_ok-entries.entries w3 c.in_ok-entries.ensures in
    rw (p.1, p.2) (off_5 c.args.lines.now c.take_entries.new.self c.read_shown_list.new.lines tt c.in_ok-count.count c.in_ok-exclusions.exclusions c.in_ok-exclusions.ensures.0 c.in_ok-entries.entries c.in_err-shown.field-0.0 w4 c.in_err-shown.ensures)

pub returns-in_err-take_end : goal.returns-in_err-take_end
returns-in_err-take_end c =
    let p = err_from_is_err_and c.from_residual-in_err-take_end.result c.from_residual-in_err-take_end.ensures.1 in
    let w1 = on_1 c.args.lines.now c.args.lines.now c.take_opening.new.self tt (start c.args.lines.now) c.in_ok-take_opening.ensures in
    let w2 = on_2 c.args.lines.now c.take_opening.new.self c.take_exclusions.new.self tt c.in_ok-count.count w1 c.in_ok-count.ensures in
    let w3 = on_3 c.args.lines.now c.take_exclusions.new.self c.read_exclusions.new.lines tt c.in_ok-count.count c.in_ok-exclusions.exclusions w2 c.in_ok-exclusions.ensures in
    let w4 = on_4 c.args.lines.now c.read_exclusions.new.lines c.take_entries.new.self tt c.in_ok-count.count c.in_ok-exclusions.exclusions c.in_ok-exclusions.ensures.0 c.in_ok-entries.entries w3 c.in_ok-entries.ensures in
    let w5 = on_5 c.args.lines.now c.take_entries.new.self c.read_shown_list.new.lines tt c.in_ok-count.count c.in_ok-exclusions.exclusions c.in_ok-exclusions.ensures.0 c.in_ok-entries.entries c.in_ok-shown.shown w4 c.in_ok-shown.ensures in
    rw (p.1, p.2) (off_6 c.args.lines.now c.read_shown_list.new.lines c.take_end.new.self tt c.in_ok-count.count c.in_ok-exclusions.exclusions c.in_ok-exclusions.ensures.0 c.in_ok-entries.entries c.in_ok-shown.shown c.in_ok-shown.ensures.0 c.in_err-take_end.field-0.0 w5 c.in_err-take_end.ensures)

pub returns : goal.returns
returns c =
    let w1 = on_1 c.args.lines.now c.args.lines.now c.take_opening.new.self tt (start c.args.lines.now) c.in_ok-take_opening.ensures in
    let w2 = on_2 c.args.lines.now c.take_opening.new.self c.take_exclusions.new.self tt c.in_ok-count.count w1 c.in_ok-count.ensures in
    let w3 = on_3 c.args.lines.now c.take_exclusions.new.self c.read_exclusions.new.lines tt c.in_ok-count.count c.in_ok-exclusions.exclusions w2 c.in_ok-exclusions.ensures in
    let w4 = on_4 c.args.lines.now c.read_exclusions.new.lines c.take_entries.new.self tt c.in_ok-count.count c.in_ok-exclusions.exclusions c.in_ok-exclusions.ensures.0 c.in_ok-entries.entries w3 c.in_ok-entries.ensures in
    let w5 = on_5 c.args.lines.now c.take_entries.new.self c.read_shown_list.new.lines tt c.in_ok-count.count c.in_ok-exclusions.exclusions c.in_ok-exclusions.ensures.0 c.in_ok-entries.entries c.in_ok-shown.shown w4 c.in_ok-shown.ensures in
    let w6 = on_6 c.args.lines.now c.read_shown_list.new.lines c.take_end.new.self tt c.in_ok-count.count c.in_ok-exclusions.exclusions c.in_ok-exclusions.ensures.0 c.in_ok-entries.entries c.in_ok-shown.shown c.in_ok-shown.ensures.0 tt w5 c.in_ok-take_end.ensures in
    whole c.args.lines.now c.take_end.new.self tt c.in_ok-count.count c.in_ok-exclusions.exclusions c.in_ok-exclusions.ensures.0 c.in_ok-entries.entries c.in_ok-shown.shown c.in_ok-shown.ensures.0 tt w6
