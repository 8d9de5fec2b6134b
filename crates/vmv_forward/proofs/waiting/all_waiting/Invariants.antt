use Rattle.vmv_forward.proofs.Listed.{FilledTo}
use Rattle.vmv_forward.proofs.waiting.all_waiting.Given as goal

abbrev pub invariant-loop-number : goal.invariant-loop-number
invariant-loop-number l = FilledTo l.count l.number l.waiting

abbrev pub decreases-loop-number : goal.decreases-loop-number
decreases-loop-number l = l.number
