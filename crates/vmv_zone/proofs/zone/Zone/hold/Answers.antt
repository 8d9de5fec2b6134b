use Rattle.vmv_zone.proofs.Guards.{guarded_of}
use Rattle.vmv_zone.proofs.Normed.{norm_itself}
use Rattle.vmv_zone.proofs.zone.Zone.hold.Goals as goal

pub returns : goal.returns
returns c = guarded_of c.args.self.now c.args.self.now c.meet.new.self c.normalize_closed.new.self c.args.test (norm_itself c.args.self.now c.requires.normal) c.meet.ensures c.normalize_closed.ensures
