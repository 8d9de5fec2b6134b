use Rattle.vmv_snapshot.specs.Resolution.{procs_of}
use Rattle.vmv_proof_check.proofs.Shaping.{mark_is, name_is, push_none, push_one}
use Rattle.vmv_proof_check.proofs.shape.push_entry.Goals as goal

pub returns-then-not-is_entry : goal.returns-then-not-is_entry
returns-then-not-is_entry c = λ item there. push_none c.args.names.now.items item (mark_is (procs_of c.args.snapshot.now) c.args.number item _ there c.if-not-is_entry.ensures)

pub returns : goal.returns
returns c = λ item there. push_one c.args.names.now.items c.push.new.self.items item c.proc_name-name.result (mark_is (procs_of c.args.snapshot.now) c.args.number item _ there c.if-not-is_entry.ensures) (name_is (procs_of c.args.snapshot.now) c.args.number item c.proc_name-name.result there c.proc_name-name.ensures) c.in_ok-push.ensures.items
