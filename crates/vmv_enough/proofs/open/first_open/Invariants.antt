use Rattle.vmv_assumption.specs.Assumed.{cond_of}
use Rattle.vmv_enough.proofs.Opened.{NoneIn}
use Rattle.vmv_enough.proofs.open.first_open.Given as goal

abbrev pub invariant-loop-k : goal.invariant-loop-k
invariant-loop-k l = NoneIn l.base (cond_of l.assumed) l.plan.subjects l.judged l.k
