use Rattle.std.proofs.Common.{◌≡◌, ℕ, Some, map, take, slice_get}
use Rattle.vmv_tree.specs.Run.{name_of}
use Rattle.vmv_snapshot.specs.Resolution.{Resolution, procs_of}
use Rattle.vmv_cert.specs.Tables.{Box}
use Rattle.vmv_proof_check.specs.Work.{IsSought, AreFound}
use Rattle.vmv_proof_check.proofs.sites.common_sites.Given as goal

abbrev pub invariant-loop-row : goal.invariant-loop-row
invariant-loop-row l = (program : Resolution) (number : ℕ) (box : Box) → slice_get (map name_of (procs_of program)) number ≡ Some l.sought.name → IsSought l.sought.name box l.sought → AreFound program number box (take l.row-index l.rows) l.found
