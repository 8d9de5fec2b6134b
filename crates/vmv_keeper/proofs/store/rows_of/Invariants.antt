-- The rows so far are those of the versions so far.
use Rattle.std.proofs.Common.{◌≡◌, map, take}
use Rattle.vmv_keeper.proofs.store.rows_of.Given as goal

abbrev pub invariant-loop-version : goal.invariant-loop-version
invariant-loop-version l = l.rows ≡ map (λ version. version.row) (take l.version-index l.versions)
