-- There is a version for each row so far, numbered from 1 on, the first of which was opened.
use Rattle.std.proofs.Common.{◌≡◌, ◌+◌, ◌<◌, length}
use Rattle.vmv_keeper.specs.Formed.{AreNumbered, BeginOpened}
use Rattle.vmv_sql.proofs.held.versions_of.Given as goal

abbrev pub invariant-loop-row : goal.invariant-loop-row
invariant-loop-row l = record { count : length l.versions ≡ l.row-index; next : l.number ≡ l.row-index + 1; numbered : AreNumbered 1 l.versions; opened : 0 < length l.versions → BeginOpened l.versions }
