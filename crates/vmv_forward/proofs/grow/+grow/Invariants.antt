use Rattle.vmv_forward.proofs.Growing.{Growing}
use Rattle.vmv_forward.proofs.grow.+grow.Given as goal

abbrev pub invariant-loop-c : goal.invariant-loop-c
invariant-loop-c l = Growing l.snapshot l.fn.proc.0 l.caller l.place l.fn.instances.items l.instances.items l.c l.callee-items

abbrev pub decreases-grow : goal.decreases-grow
decreases-grow l = l.proc.0
