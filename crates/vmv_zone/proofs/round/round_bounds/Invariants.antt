use Rattle.vmv_zone.specs.Round.{IsLeastFrom}
use Rattle.vmv_zone.proofs.Filled.{RefilledBy}
use Rattle.vmv_zone.proofs.round.round_bounds.Given as goal

abbrev pub invariant-loop-place : goal.invariant-loop-place
invariant-loop-place l = RefilledBy (λ b t. IsLeastFrom l.thresholds b t) l.vars l.initial.bounds l.bounds l.place
