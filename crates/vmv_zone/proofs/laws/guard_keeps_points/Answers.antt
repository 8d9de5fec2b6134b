use Rattle.vmv_zone.proofs.GuardLaws.{guard_point}
use Rattle.vmv_zone.proofs.laws.guard_keeps_points.Goals as goal

pub returns : goal.returns
returns c = guard_point
