use Rattle.vmv_zone.proofs.Normed.{assigned_through}
use Rattle.vmv_step.proofs.repeat.again.Goals as goal

pub returns : goal.returns
returns c = assigned_through c.args.zone c.normalize.new.self _ _ _ c.normalize.ensures c.again_in_place.ensures.again
