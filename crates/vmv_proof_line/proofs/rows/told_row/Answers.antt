use Rattle.std.proofs.Common.{◌∷◌, []}
use Rattle.std.specs.Fmt.{decimal}
use Rattle.vmv_proof_line.proofs.Fields.{row_words, row_none, row_no_count, row_told}
use Rattle.vmv_proof_line.proofs.rows.told_row.Goals as goal

pub returns-in_default : goal.returns-in_default
returns-in_default c = λ head h. c.in_default.ensures.none (head.proc ∷ decimal head.loops ∷ []) (row_words c.args.line.now head.proc head.loops h)

pub returns-in_default-next_name : goal.returns-in_default-next_name
returns-in_default-next_name c = λ head. row_none c.args.line.now c.in-Some.words c.in-Some.ensures.some c.in_default-next_name.ensures head.proc head.loops

pub returns-in_default-last_count : goal.returns-in_default-last_count
returns-in_default-last_count c =
    let taken = c.in-Some-next_name.ensures in
    λ head. row_no_count c.args.line.now c.in-Some.words c.next_name.new.self taken.0 c.in-Some.ensures.some taken.2 c.in_default-last_count.ensures head.proc head.loops

pub returns : goal.returns
returns c =
    let taken = c.in-Some-next_name.ensures in
    let last = c.in-Some-last_count.ensures in
    row_told c.args.line.now c.in-Some.words c.next_name.new.self taken.0 last.0 c.in-Some-next_name.proc c.in-Some-last_count.loops c.in-Some.ensures.some taken.1 taken.2 last.1 last.2
