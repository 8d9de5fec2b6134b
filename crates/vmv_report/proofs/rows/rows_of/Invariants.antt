use Rattle.vmv_report.specs.Work.{review_of}
use Rattle.vmv_report.proofs.Entered.{IsToldTo}
use Rattle.vmv_report.proofs.rows.rows_of.Given as goal

abbrev pub invariant-loop-place : goal.invariant-loop-place
invariant-loop-place l = IsToldTo (review_of l.judging) l.judging.entries.now l.place l.told
