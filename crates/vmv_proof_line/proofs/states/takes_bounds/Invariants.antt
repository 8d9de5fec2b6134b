use Rattle.vmv_proof_line.proofs.StateLoops.{BoundsRead}
use Rattle.vmv_proof_line.proofs.states.takes_bounds.Given as goal

abbrev pub invariant-loop : goal.invariant-loop
invariant-loop l = BoundsRead l.initial.zone l.initial.words l.counter l.words l.zone l.last
