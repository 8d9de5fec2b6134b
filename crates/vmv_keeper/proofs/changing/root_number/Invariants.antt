-- The root so far, and the versions that are left, give the root.
use Rattle.std.proofs.Common.{◌≡◌, drop, map}
use Rattle.vmv_keeper.specs.Tables.{root_after}
use Rattle.vmv_keeper.proofs.changing.root_number.Given as goal

abbrev pub invariant-loop-version : goal.invariant-loop-version
invariant-loop-version l = root_after l.root (map (λ version. version.row) (drop l.version-index l.project.versions)) ≡ root_after 0 (map (λ version. version.row) l.project.versions)
