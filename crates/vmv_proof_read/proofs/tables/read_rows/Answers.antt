use Rattle.std.proofs.Common.{◌<◌, [], ◌∷◌, length, sym, subst, ap, arith, length-append}
use Rattle.std.proofs.lemmas.Result.{err_from_is_err_and}
use Rattle.vmv_proof_text.specs.Parts.{parts_of_row}
use Rattle.vmv_proof_read.proofs.Once.{decides_row}
use Rattle.vmv_proof_read.proofs.Times.{WentTo, none_yet, one_more, none_more, all_read}
use Rattle.vmv_proof_read.proofs.tables.read_rows.Goals as goal

pub loop-init : goal.loop-init
loop-init c =
    record {
      many = ap length c.new-rows.ensures;
      went = subst (λ xs. WentTo parts_of_row c.args.count xs c.args.lines.now c.args.lines.now) (sym c.new-rows.ensures) (none_yet parts_of_row c.args.count c.args.lines.now);
    }

pub returns-in_err-row : goal.returns-in_err-row
returns-in_err-row c =
    let p = err_from_is_err_and c.from_residual.result c.from_residual.ensures.1 in
    let few : length c.loop.rows < c.args.count = omega (arith, c.loop.invariant.many, c.loop-test.true) in
    rw (p.1, p.2) (none_more parts_of_row c.args.count c.loop.rows c.args.lines.now c.loop.lines c.read_row.new.lines c.in_err-row.field-0.0 few c.loop.invariant.went c.in_err-row.ensures)

pub returns-in_err-push : goal.returns-in_err-push
returns-in_err-push c =
    let p = err_from_is_err_and c.from_residual-in_err-push.result c.from_residual-in_err-push.ensures.1 in
    rw (p.1, p.2) tt

pub loop-preserved : goal.loop-preserved
loop-preserved c =
    let more = c.in_ok-push.ensures.ok in
    let few : length c.loop.rows < c.args.count = omega (arith, c.loop.invariant.many, c.loop-test.true) in
    record {
      many = omega (arith, ap length more, length-append c.loop.rows (c.in_ok-row.row ∷ []), c.loop.invariant.many);
      went = subst (λ xs. WentTo parts_of_row c.args.count xs c.args.lines.now c.read_row.new.lines) (sym more)
          (one_more parts_of_row c.args.count c.loop.rows c.args.lines.now c.loop.lines c.read_row.new.lines c.in_ok-row.row few c.loop.invariant.went decides_row c.in_ok-row.ensures);
    }

pub returns : goal.returns
returns c = all_read parts_of_row c.args.count c.loop.rows c.args.lines.now c.loop.lines (omega (arith, c.loop.invariant.many, c.loop-test.false, c.loop.auto.counter-end)) c.loop.invariant.went
