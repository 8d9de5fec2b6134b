use Rattle.std.proofs.Common.{◌<◌, [], ◌∷◌, length, sym, subst, ap, arith, length-append}
use Rattle.std.proofs.lemmas.Result.{err_from_is_err_and}
use Rattle.vmv_proof_read.specs.Reading.{only}
use Rattle.vmv_proof_text.specs.Parts.{keep_part}
use Rattle.vmv_proof_read.proofs.Singles.{decides_line}
use Rattle.vmv_proof_read.proofs.LineLaws.{one_keep}
use Rattle.vmv_proof_read.proofs.Times.{WentTo, none_yet, one_more, none_more, all_read}
use Rattle.vmv_proof_read.proofs.tables.read_keeps.Goals as goal

pub loop-init : goal.loop-init
loop-init c =
    record {
      many = ap length c.new-keeps.ensures;
      went = subst (λ xs. WentTo (only keep_part) c.args.count xs c.args.lines.now c.args.lines.now) (sym c.new-keeps.ensures) (none_yet (only keep_part) c.args.count c.args.lines.now);
    }

pub returns-in_err-keep : goal.returns-in_err-keep
returns-in_err-keep c =
    let p = err_from_is_err_and c.from_residual.result c.from_residual.ensures.1 in
    let few : length c.loop.keeps < c.args.count = omega (arith, c.loop.invariant.many, c.loop-test.true) in
    rw (p.1, p.2) (none_more (only keep_part) c.args.count c.loop.keeps c.args.lines.now c.loop.lines c.take_keep.new.self c.in_err-keep.field-0.0 few c.loop.invariant.went c.in_err-keep.ensures)

pub returns-in_err-push : goal.returns-in_err-push
returns-in_err-push c =
    let p = err_from_is_err_and c.from_residual-in_err-push.result c.from_residual-in_err-push.ensures.1 in
    rw (p.1, p.2) tt

pub loop-preserved : goal.loop-preserved
loop-preserved c =
    let more = c.in_ok-push.ensures.ok in
    let few : length c.loop.keeps < c.args.count = omega (arith, c.loop.invariant.many, c.loop-test.true) in
    record {
      many = omega (arith, ap length more, length-append c.loop.keeps (c.in_ok-keep.keep ∷ []), c.loop.invariant.many);
      went = subst (λ xs. WentTo (only keep_part) c.args.count xs c.args.lines.now c.take_keep.new.self) (sym more)
          (one_more (only keep_part) c.args.count c.loop.keeps c.args.lines.now c.loop.lines c.take_keep.new.self c.in_ok-keep.keep few c.loop.invariant.went (decides_line keep_part one_keep) c.in_ok-keep.ensures);
    }

pub returns : goal.returns
returns c = all_read (only keep_part) c.args.count c.loop.keeps c.args.lines.now c.loop.lines (omega (arith, c.loop.invariant.many, c.loop-test.false, c.loop.auto.counter-end)) c.loop.invariant.went
