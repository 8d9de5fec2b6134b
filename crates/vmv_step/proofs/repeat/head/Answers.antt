use Rattle.vmv_step.proofs.Normed.{head_through}
use Rattle.vmv_step.proofs.repeat.head.Goals as goal

pub returns : goal.returns
returns c = head_through c.args.repeat.now.index c.args.repeat.now.slot c.args.repeat.now.bound c.args.repeat.now.cap c.args.zone c.normalize.new.self _ c.normalize.ensures c.head_in_place-unproved.ensures.head
