use Rattle.std.proofs.Common.{◌≡◌, length, arith}
use Rattle.vmv_snapshot.specs.Resolution.{procs_of}
use Rattle.vmv_proof_check.proofs.Counting.{procs_done}
use Rattle.vmv_proof_check.proofs.count.count_entry.Goals as goal

pub returns : goal.returns
returns c =
    let end : c.loop-number.number ≡ length (procs_of c.args.checking.now.revision.now) = omega (arith, c.proc_count-number-end.ensures) in
    procs_done c.args.checking.now.revision.now c.args.checking.now.shown.now c.args.entry.0 c.loop-number.number c.loop-number.claims c.requires.resolution end c.loop-number.invariant
