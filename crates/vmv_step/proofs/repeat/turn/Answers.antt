use Rattle.vmv_zone.proofs.Normed.{guarded_through}
use Rattle.vmv_step.proofs.repeat.turn.Goals as goal

pub returns : goal.returns
returns c = guarded_through c.args.zone c.normalize.new.self _ _ c.normalize.ensures c.turn_in_place.ensures.turn
