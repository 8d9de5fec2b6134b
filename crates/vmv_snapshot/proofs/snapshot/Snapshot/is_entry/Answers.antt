use Rattle.vmv_snapshot.proofs.Kept.{told_of}
use Rattle.vmv_snapshot.proofs.snapshot.Snapshot.is_entry.Goals as goal

pub returns : goal.returns
returns c = (told_of c.args.self.now c.self.inside.program c.self.inside.tables c.self.inside.reached.items c.self.invariant c.self.view_is c.args.proc.0 c.requires c.index.result.now c.index.ensures).entry
