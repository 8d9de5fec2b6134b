-- The transaction is over the same connection.
use Rattle.std.proofs.Common.{◌≡◌}
use Rattle.vmv_sql.proofs.making.keep_judged.Given as goal

abbrev pub invariant-loop-version : goal.invariant-loop-version
invariant-loop-version g l = l.transaction.conn.ghost_name ≡ l.fn.transaction.conn.ghost_name
