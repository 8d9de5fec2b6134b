-- The transaction is over the same connection.
use Rattle.std.proofs.Common.{◌≡◌}
use Rattle.vmv_sql.proofs.making.migrate_projects.Given as goal

abbrev pub invariant-loop-row : goal.invariant-loop-row
invariant-loop-row g l = l.transaction.conn.ghost_name ≡ l.fn.transaction.conn.ghost_name
