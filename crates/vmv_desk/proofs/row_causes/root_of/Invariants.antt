-- The root so far, and the rows that are left, give the root.
use Rattle.std.proofs.Common.{◌≡◌, drop}
use Rattle.vmv_keeper.specs.Tables.{root_after}
use Rattle.vmv_desk.proofs.row_causes.root_of.Given as goal

abbrev pub invariant-loop-row : goal.invariant-loop-row
invariant-loop-row l = root_after l.root (drop l.row-index l.held.versions) ≡ root_after 0 l.held.versions
