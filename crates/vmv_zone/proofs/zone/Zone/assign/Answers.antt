use Rattle.vmv_zone.proofs.Normed.{assigned_through}
use Rattle.vmv_zone.proofs.zone.Zone.assign.Goals as goal

pub returns : goal.returns
returns c = assigned_through c.args.self c.normalize.new.self c.store.new.self c.args.to c.args.value c.normalize.ensures c.store.ensures
