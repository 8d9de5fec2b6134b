use Rattle.std.proofs.Common.{◌≡◌, ℕ, Some, map, slice_get}
use Rattle.vmv_tree.specs.Run.{name_of}
use Rattle.vmv_snapshot.specs.Resolution.{Resolution, procs_of}
use Rattle.vmv_cert.specs.declared.row.Reach.TheVariants.{Bottom}
use Rattle.vmv_cert.specs.Tables.{Box, IsRowAbove}
use Rattle.vmv_check.proofs.Lists.{Upto}
use Rattle.vmv_proof_check.specs.Work.{IsSought}
use Rattle.vmv_proof_check.proofs.sought.has_dead.Given as goal

abbrev pub invariant-loop-row : goal.invariant-loop-row
invariant-loop-row l = (program : Resolution) (number : ℕ) (box : Box) → slice_get (map name_of (procs_of program)) number ≡ Some l.sought.name → IsSought l.sought.name box l.sought → Upto (λ row. (IsRowAbove program number box row × (row.result ≡ Bottom)) → ⊥) l.rows l.row-index
