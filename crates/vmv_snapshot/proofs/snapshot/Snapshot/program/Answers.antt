use Rattle.std.proofs.Common.{subst}
use Rattle.vmv_snapshot.specs.Resolution.{IsResolution}
use Rattle.vmv_snapshot.proofs.Kept.{resolution}
use Rattle.vmv_snapshot.proofs.snapshot.Snapshot.program.Goals as goal

pub returns-clause-resolution : goal.returns-clause-resolution
returns-clause-resolution c = subst IsResolution c.self.view_is (resolution c.self.inside.program c.self.inside.tables c.self.inside.reached.items c.self.invariant)
