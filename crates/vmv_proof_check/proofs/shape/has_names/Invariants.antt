use Rattle.std.proofs.Common.{ℕ, ◌<◌, ◌≡◌, Some, slice_get}
use Rattle.vmv_tree.specs.declared.name.Name.{Name}
use Rattle.vmv_proof.specs.declared.proof.Shown.{Shown}
use Rattle.vmv_proof_check.proofs.shape.has_names.Given as goal

abbrev pub invariant-loop-i : goal.invariant-loop-i
invariant-loop-i l = (k : ℕ) (s : Shown) (name : Name) → k < l.i → slice_get l.shown k ≡ Some s → slice_get l.names k ≡ Some name → s.entry ≡ name
