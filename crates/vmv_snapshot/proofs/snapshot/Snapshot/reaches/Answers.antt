use Rattle.std.proofs.Common.{arith}
use Rattle.vmv_snapshot.proofs.Kept.{row_within, reached_of}
use Rattle.vmv_snapshot.proofs.snapshot.Snapshot.reaches.Goals as goal

pub index-requires : goal.index-requires
index-requires c = let k = c.self.inside.reached.ok in let h = row_within c.args.self.now c.self.inside.program c.self.inside.tables c.self.inside.reached.items c.self.invariant c.self.view_is c.args.from.0 c.requires.from in omega (arith, k, h)

pub returns : goal.returns
returns c = reached_of c.args.self.now c.self.inside.program c.self.inside.tables c.self.inside.reached.items c.self.invariant c.self.view_is c.args.from.0 c.args.to.0 c.index.result.now c.requires.from c.index.ensures
