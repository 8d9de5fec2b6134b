use Rattle.vmv_snapshot.proofs.Kept.{kept_of}
use Rattle.vmv_snapshot.proofs.snapshot.Snapshot.resolved.Goals as goal

pub invariant_of-result : goal.invariant_of-result
invariant_of-result c = kept_of c.args.program c.in_ok-tables.tables c.in_ok-reached.reached.items c.requires c.in_ok-tables.ensures (rw (← c.as_slice.ensures.value) c.in_ok-reached.ensures)
