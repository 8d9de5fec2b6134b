use Rattle.std.proofs.Common.{rules}
use Rattle.vmv_zone.proofs.zone.Zone.allows.Goals as goal

pub returns : goal.returns
returns c = (c.hold.new.self, c.hold.ensures, ((λ h. search rules), (λ h. search rules)))
