use Rattle.std.proofs.Common.{sym, ◌∙◌}
use Rattle.std.proofs.lemmas.Bool.{false≢true}
use Rattle.std.proofs.lemmas.Result.{err_from_is_err_and}
use Rattle.vmv_proof_text.specs.Parts.{Part, opening_part}
use Rattle.vmv_proof_line.specs.declared.fault.LineFault.TheVariants.{Form}
use Rattle.vmv_proof_read.proofs.Singles.{line_read, line_ill, unread}
use Rattle.vmv_proof_read.proofs.LineLaws.{clean}
use Rattle.vmv_proof_read.proofs.lines.Lines.take_opening.Goals as goal

abbrev part : Unit {0} → Part
part u = opening_part

pub returns-in_err-line : goal.returns-in_err-line
returns-in_err-line c =
    let p = err_from_is_err_and c.from_residual.result c.from_residual.ensures.1 in
    rw (p.1, p.2) (unread part c.args.self.now c.in_err-line.field-0.0 tt c.in_err-line.ensures.none)

pub returns-then-not-is_opening : goal.returns-then-not-is_opening
returns-then-not-is_opening c =
    line_ill part clean c.args.self.now c.in_ok-line.left.now c.in_ok-line.line.now Form tt c.in_ok-line.ensures.ok
    (λ u h. false≢true (sym c.if-not-is_opening.true ∙ c.is_opening.ensures.1 h))

pub returns : goal.returns
returns c = line_read part c.args.self.now c.in_ok-line.left.now c.in_ok-line.line.now tt c.in_ok-line.ensures.ok (c.is_opening.ensures.0 c.if-not-is_opening.false)
