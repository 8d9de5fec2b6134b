use Rattle.std.proofs.Common.{◌<◌, [], ◌∷◌, length, sym, subst, ap, arith, length-append}
use Rattle.std.proofs.lemmas.Result.{err_from_is_err_and}
use Rattle.vmv_proof_text.specs.Parts.{parts_of_shown}
use Rattle.vmv_proof_read.proofs.Once.{decides_shown}
use Rattle.vmv_proof_read.proofs.Times.{WentTo, none_yet, one_more, none_more, all_read}
use Rattle.vmv_proof_read.proofs.proof.read_shown_list.Goals as goal

pub loop-init : goal.loop-init
loop-init c =
    record {
      many = ap length c.new-list.ensures;
      went = subst (λ xs. WentTo parts_of_shown c.args.count xs c.args.lines.now c.args.lines.now) (sym c.new-list.ensures) (none_yet parts_of_shown c.args.count c.args.lines.now);
    }

pub returns-in_err-shown : goal.returns-in_err-shown
returns-in_err-shown c =
    let p = err_from_is_err_and c.from_residual.result c.from_residual.ensures.1 in
    let few : length c.loop.list < c.args.count = omega (arith, c.loop.invariant.many, c.loop-test.true) in
    rw (p.1, p.2) (none_more parts_of_shown c.args.count c.loop.list c.args.lines.now c.loop.lines c.read_shown.new.lines c.in_err-shown.field-0.0 few c.loop.invariant.went c.in_err-shown.ensures)

pub returns-in_err-push : goal.returns-in_err-push
returns-in_err-push c =
    let p = err_from_is_err_and c.from_residual-in_err-push.result c.from_residual-in_err-push.ensures.1 in
    rw (p.1, p.2) tt

pub loop-preserved : goal.loop-preserved
loop-preserved c =
    let more = c.in_ok-push.ensures.ok in
    let few : length c.loop.list < c.args.count = omega (arith, c.loop.invariant.many, c.loop-test.true) in
    record {
      many = omega (arith, ap length more, length-append c.loop.list (c.in_ok-shown.shown ∷ []), c.loop.invariant.many);
      went = subst (λ xs. WentTo parts_of_shown c.args.count xs c.args.lines.now c.read_shown.new.lines) (sym more)
          (one_more parts_of_shown c.args.count c.loop.list c.args.lines.now c.loop.lines c.read_shown.new.lines c.in_ok-shown.shown few c.loop.invariant.went decides_shown c.in_ok-shown.ensures);
    }

pub returns : goal.returns
returns c = all_read parts_of_shown c.args.count c.loop.list c.args.lines.now c.loop.lines (omega (arith, c.loop.invariant.many, c.loop-test.false, c.loop.auto.counter-end)) c.loop.invariant.went
