use Rattle.vmv_zone.proofs.Normed.{args_through}
use Rattle.vmv_step.proofs.passing.pass.Goals as goal

pub returns : goal.returns
returns c = args_through c.args.zone.now c.normalize.new.self c.pass_into.new.into _ c.normalize.ensures c.pass_into.ensures
