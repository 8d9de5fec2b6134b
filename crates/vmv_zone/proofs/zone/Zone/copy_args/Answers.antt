use Rattle.vmv_zone.proofs.Normed.{args_through}
use Rattle.vmv_zone.proofs.zone.Zone.copy_args.Goals as goal

pub returns : goal.returns
returns c = args_through c.args.self.now c.normalize.new.self c.copy_args_to.new.into c.args.args.now c.normalize.ensures c.copy_args_to.ensures
