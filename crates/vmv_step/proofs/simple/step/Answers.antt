use Rattle.vmv_step.proofs.Normed.{stepped_through}
use Rattle.vmv_step.proofs.simple.step.Goals as goal

pub returns : goal.returns
returns c = stepped_through _ _ c.args.zone c.normalize.new.self _ c.normalize.ensures c.step_in_place-unproved.ensures.stepped
