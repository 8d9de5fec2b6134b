use Rattle.std.proofs.Common.{◌≤◌}
use Rattle.vmv_zone.specs.Bounds.{IsMarkedIn, IsOffZero}
use Rattle.vmv_zone.proofs.Turns.{turned_same, turned_lower}
use Rattle.vmv_zone.proofs.paths.tighten.Goals as goal
use Rattle.vmv_zone.proofs.paths.tighten.Goals.{in-Same, in-Lower}

pub loop-i-preserved : goal.loop-i-preserved
loop-i-preserved c = elim c.match-tighten_at.branch [
  | in-Same w ↦ turned_same (λ bs i. 1 ≤ i → IsMarkedIn c.args.marks.now i → IsOffZero bs i) _ c.tighten_at.result _ w.in-Same.is w.change-is c.loop-i.invariant c.tighten_at.ensures.relaxes (λ e first. c.tighten_at.ensures.off e)
  | in-Lower w ↦ turned_lower (λ bs i. 1 ≤ i → IsMarkedIn c.args.marks.now i → IsOffZero bs i) _ c.tighten_at.result _ w.in-Lower.is w.change-is c.loop-i.invariant c.tighten_at.ensures.relaxes
]
