use Rattle.vmv_proof_line.proofs.StateLoops.{MarksRead}
use Rattle.vmv_proof_line.proofs.states.takes_last_marks.Given as goal

abbrev pub invariant-loop : goal.invariant-loop
invariant-loop l = MarksRead l.initial.zone l.initial.words l.counter l.words l.zone l.last
