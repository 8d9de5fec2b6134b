use Rattle.std.proofs.Common.{◌≡◌, length}
use Rattle.vmv_demands.specs.Sources.{AreSummaries}
use Rattle.vmv_demands.proofs.leads.summaries.Given as goal

abbrev pub invariant-loop-n : goal.invariant-loop-n
invariant-loop-n l = (length l.rows ≡ l.n) × AreSummaries l.snapshot.codes l.n l.rows
