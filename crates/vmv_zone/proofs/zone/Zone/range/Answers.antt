use Rattle.vmv_zone.proofs.Normed.{range_through}
use Rattle.vmv_zone.proofs.zone.Zone.range.Goals as goal

pub returns : goal.returns
returns c = range_through c.args.self.now c.normalize.new.self c.args.of _ c.normalize.ensures c.range_normed.ensures
