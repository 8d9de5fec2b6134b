use Rattle.vmv_zone.proofs.GuardLaws.{guard_mono}
use Rattle.vmv_zone.proofs.laws.guard_is_monotone.Goals as goal

pub returns : goal.returns
returns c = guard_mono
