use Rattle.std.proofs.Common.{◌+◌}
use Rattle.vmv_report.specs.Work.{review_of, IsToldBefore, IsAhead, at}
use Rattle.vmv_report.proofs.rows.add_sites.Given as goal

abbrev pub invariant-loop-done : goal.invariant-loop-done
invariant-loop-done l = IsToldBefore (review_of l.judging) (at l.entry.0 l.proc.0 (l.done + 1)) l.told × IsAhead l.judging.revision.now (at l.entry.0 l.proc.0 (l.done + 1)) l.sites l.ahead
