use Rattle.vmv_zone.proofs.Normed.{guarded_through}
use Rattle.vmv_zone.proofs.zone.Zone.guard.Goals as goal

pub returns : goal.returns
returns c = guarded_through c.args.self c.normalize.new.self c.hold.new.self c.args.test c.normalize.ensures c.hold.ensures
