use Rattle.vmv_proof_check.specs.Work.{IsTallied}
use Rattle.vmv_proof_check.proofs.check.check_entries.Given as goal

abbrev pub invariant-loop-number : goal.invariant-loop-number
invariant-loop-number l = IsTallied l.checking l.number l.tally
