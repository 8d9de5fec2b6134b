use Rattle.std.proofs.Common.{◌≡◌, length, arith}
use Rattle.vmv_snapshot.specs.Resolution.{procs_of}
use Rattle.vmv_assumption.specs.Assumed.{cond_of}
use Rattle.vmv_proving.proofs.Showing.{none_shown, all_of_them}
use Rattle.vmv_proving.proofs.shown.all_shown.Goals as goal

pub loop-number-init : goal.loop-number-init
loop-number-init c = none_shown c.args.revision.now c.args.ends.now (cond_of c.args.needed.now) _ c.new-shown.ensures

pub returns : goal.returns
returns c =
    let end : c.loop-number.number ≡ length (procs_of c.args.revision.now) = omega (arith, c.loop-number-test.false, c.loop-number.auto.number-end, c.proc_count-number-end.ensures) in
    all_of_them c.args.revision.now c.args.ends.now (cond_of c.args.needed.now) c.loop-number.number c.loop-number.shown end c.loop-number.invariant
