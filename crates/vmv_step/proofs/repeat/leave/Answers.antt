use Rattle.vmv_step.proofs.Normed.{left_through}
use Rattle.vmv_step.proofs.repeat.leave.Goals as goal

pub returns : goal.returns
returns c = left_through c.args.repeat.now.index c.args.repeat.now.slot c.args.zone c.normalize.new.self _ c.normalize.ensures c.leave_in_place.ensures.left
