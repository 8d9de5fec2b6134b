-- Each number so far is 1 or more.
use Rattle.std.proofs.Common.{◌≡◌, ◌+◌, ◌≤◌}
use Rattle.std.specs.List.{AllByRecursion}
use Rattle.vmv_sql.proofs.held.old_rows_of.Given as goal

abbrev pub invariant-loop-row : goal.invariant-loop-row
invariant-loop-row l = record { next : l.number ≡ l.row-index + 1; each : AllByRecursion (λ version. 1 ≤ version.number) l.versions }
