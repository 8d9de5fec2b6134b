use Rattle.vmv_forward.proofs.Listed.{PutTo}
use Rattle.vmv_forward.proofs.waiting.put_called.Given as goal

abbrev pub invariant-loop-c : goal.invariant-loop-c
invariant-loop-c l = PutTo l.callees l.risen l.initial.waiting l.waiting l.c
