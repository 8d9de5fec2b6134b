use Rattle.std.proofs.Common.{ℕ, ◌<◌, ◌≡◌, ℤ, ◌≤ℤ◌, Some, slice_get}
use Rattle.vmv_tree.specs.declared.tree.Param.{Param}
use Rattle.vmv_proof_check.proofs.entry.is_box_in.Given as goal

abbrev pub invariant-loop-i : goal.invariant-loop-i
invariant-loop-i l = (k : ℕ) (p : Param) (range : ℤ × ℤ) → k < l.i → slice_get l.params k ≡ Some p → slice_get l.ranges k ≡ Some range → (p.lo ≤ℤ range.0) × (range.0 ≤ℤ range.1) × (range.1 ≤ℤ p.hi)
