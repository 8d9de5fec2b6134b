-- The projects so far stand in order, the last one at the end.
use Rattle.std.proofs.Common.{◌≡◌, false}
use Rattle.std.specs.List.{AllByRecursion}
use Rattle.vmv_keeper.specs.Formed.{IsBench}
use Rattle.vmv_sql.proofs.Keys.{EndWith, AreDistinct}
use Rattle.vmv_sql.proofs.benches.benches.Given as goal

abbrev pub invariant-loop-row : goal.invariant-loop-row
invariant-loop-row g l = record { mode : l.connection.in_transaction ≡ false; each : AllByRecursion IsBench l.benches; distinct : AreDistinct l.benches; ends : EndWith l.last l.benches }
