use Rattle.vmv_snapshot.specs.Resolution.{tree_of}
use Rattle.vmv_witness.proofs.Entries.{entry_if, entry_else}
use Rattle.vmv_witness.proofs.fitting.is_entry_named.Goals as goal

pub returns-then-is_entry : goal.returns-then-is_entry
returns-then-is_entry c =
    entry_if (tree_of c.args.snapshot.now) c.args.proc.0 c.args.name.now c.proc_name.result c.is_entry.result c.is_same.result c.is_entry.ensures c.if-is_entry.true c.proc_name.ensures c.is_same.ensures

pub returns-else-is_entry : goal.returns-else-is_entry
returns-else-is_entry c = entry_else (tree_of c.args.snapshot.now) c.args.proc.0 c.args.name.now c.is_entry.result c.is_entry.ensures c.if-is_entry.false
