use Rattle.vmv_proof_check.specs.Work.{at, IsCountedBefore}
use Rattle.vmv_proof_check.proofs.count.count_entry.Given as goal

abbrev pub invariant-loop-number : goal.invariant-loop-number
invariant-loop-number l = IsCountedBefore l.checking.revision.now l.checking.shown.now (at l.entry.0 l.number 1) l.claims
