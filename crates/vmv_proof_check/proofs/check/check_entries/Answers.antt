use Rattle.std.proofs.Common.{◌≡◌, length, refl, arith}
use Rattle.vmv_snapshot.specs.Resolution.{procs_of}
use Rattle.vmv_proof_check.proofs.Finishing.{none_tallied, all_tallied}
use Rattle.vmv_proof_check.proofs.check.check_entries.Goals as goal

pub loop-number-init : goal.loop-number-init
loop-number-init c = none_tallied c.args.checking.now _ refl refl refl refl

pub returns-clause-tallied : goal.returns-clause-tallied
returns-clause-tallied c =
    let end : c.loop-number.number ≡ length (procs_of c.args.checking.now.revision.now) = omega (arith, c.proc_count-number-end.ensures) in
    all_tallied c.args.checking.now c.loop-number.number c.loop-number.tally c.requires end c.loop-number.invariant
