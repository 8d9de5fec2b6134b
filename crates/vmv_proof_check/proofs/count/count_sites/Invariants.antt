use Rattle.std.proofs.Common.{◌+◌}
use Rattle.vmv_proof_check.specs.Work.{at, IsCountedBefore}
use Rattle.vmv_proof_check.proofs.count.count_sites.Given as goal

abbrev pub invariant-loop-done : goal.invariant-loop-done
invariant-loop-done l = IsCountedBefore l.checking.revision.now l.checking.shown.now (at l.fn.entry.0 l.fn.proc.0 (l.done + 1)) l.claims
