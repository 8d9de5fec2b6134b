-- The rows so far are those of the versions so far.
use Rattle.std.proofs.Common.{◌≡◌, take}
use Rattle.vmv_desk_rules.specs.Migrating.{migrated}
use Rattle.vmv_desk_rules.proofs.migrating.migrate.Given as goal

abbrev pub invariant-loop-row : goal.invariant-loop-row
invariant-loop-row l = l.rows ≡ migrated (take l.row-index l.versions)
