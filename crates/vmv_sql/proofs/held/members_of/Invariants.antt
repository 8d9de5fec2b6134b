-- There is a member for each row so far.
use Rattle.std.proofs.Common.{◌≡◌, length}
use Rattle.vmv_sql.proofs.held.members_of.Given as goal

abbrev pub invariant-loop-row : goal.invariant-loop-row
invariant-loop-row l = length l.members ≡ l.row-index
