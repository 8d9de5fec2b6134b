-- The queues follow the change.
use Rattle.std.proofs.Common.{rules}
use Rattle.vmv_desk.proofs.BenchesLemmas.{agrees_after}
use Rattle.vmv_desk.proofs.committing.make.Goals as goal

pub returns-clause-agrees : goal.returns-clause-agrees
returns-clause-agrees g c =
    agrees_after (g.K.Keeper.told c.args.keeper.now) (g.K.Keeper.told c.commit.new.keeper) (record { caller = c.args.caller.now; id = c.args.id.now; act = c.args.act.now; reply = c.args.effect.reply; against = c.args.effect.against })
    c.args.queues.now.items c.commit.new.queues.items c.requires.agrees c.requires.fits (search rules) (search rules)
