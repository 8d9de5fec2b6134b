use Rattle.vmv_thresholds.proofs.Placed.{Sought}
use Rattle.vmv_thresholds.proofs.place.place_of.Given as goal

abbrev pub invariant-loop-place : goal.invariant-loop-place
invariant-loop-place l = Sought l.items l.number l.before l.place
