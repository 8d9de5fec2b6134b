use Rattle.std.proofs.Common.{arith}
use Rattle.vmv_snapshot.specs.Resolution.{procs_of}
use Rattle.vmv_proof_check.proofs.Shaping.{names_next, names_all}
use Rattle.vmv_proof_check.proofs.shape.entry_names.Goals as goal

pub loop-number-preserved : goal.loop-number-preserved
loop-number-preserved c = names_next (procs_of c.args.snapshot.now) c.loop-number.number c.loop-number.names.items c.push_entry.new.names.items (omega (arith, c.proc_count-number-end.ensures)) c.loop-number.invariant c.in_ok-push_entry.ensures

pub returns : goal.returns
returns c = names_all (procs_of c.args.snapshot.now) c.loop-number.number c.loop-number.names.items (omega (arith, c.proc_count-number-end.ensures)) c.loop-number.invariant
