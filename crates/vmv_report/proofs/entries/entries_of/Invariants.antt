use Rattle.vmv_report.specs.Work.{AreEntries}
use Rattle.vmv_report.proofs.entries.entries_of.Given as goal

abbrev pub invariant-loop-number : goal.invariant-loop-number
invariant-loop-number l = AreEntries l.revision l.number l.entries
