use Rattle.std.proofs.Common.{ℕ}
use Rattle.std.proofs.lemmas.Result.{err_from_is_err_and}
use Rattle.vmv_proof_text.specs.Parts.{Part, table_part}
use Rattle.vmv_proof_read.proofs.Singles.{line_read, line_ill, unread}
use Rattle.vmv_proof_read.proofs.LineLaws.{clean}
use Rattle.vmv_proof_read.proofs.lines.Lines.take_table.Goals as goal

abbrev part : ℕ → Part
part x = table_part x

abbrev some : ℕ
some = 0

pub returns-in_err-line : goal.returns-in_err-line
returns-in_err-line c =
    let p = err_from_is_err_and c.from_residual.result c.from_residual.ensures.1 in
    rw (p.1, p.2) (unread part c.args.self.now c.in_err-line.field-0.0 some c.in_err-line.ensures.none)

pub returns-in_err-told : goal.returns-in_err-told
returns-in_err-told c =
    let p = err_from_is_err_and c.from_residual-in_err-told.result c.from_residual-in_err-told.ensures.1 in
    rw (p.1, p.2)
    (line_ill part clean c.args.self.now c.in_ok-line.left.now c.in_ok-line.line.now c.in_err-told.field-0.0 some c.in_ok-line.ensures.ok c.in_err-told.ensures)

pub returns : goal.returns
returns c = line_read part c.args.self.now c.in_ok-line.left.now c.in_ok-line.line.now c.in_ok-told.told c.in_ok-line.ensures.ok c.in_ok-told.ensures
