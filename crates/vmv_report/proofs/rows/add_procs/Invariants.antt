use Rattle.vmv_report.specs.Work.{review_of, IsToldBefore, IsAhead, at}
use Rattle.vmv_report.proofs.rows.add_procs.Given as goal

abbrev pub invariant-loop-number : goal.invariant-loop-number
invariant-loop-number l = IsToldBefore (review_of l.judging) (at l.entry.0 l.number 1) l.told × IsAhead l.judging.revision.now (at l.entry.0 l.number 1) l.sites l.ahead
