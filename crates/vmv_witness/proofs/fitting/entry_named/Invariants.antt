use Rattle.std.proofs.Common.{ℕ, ◌<◌}
use Rattle.vmv_snapshot.specs.Resolution.{tree_of}
use Rattle.vmv_witness.specs.Fit.{HasEntry}
use Rattle.vmv_witness.proofs.fitting.entry_named.Given as goal

abbrev pub invariant-loop-n : goal.invariant-loop-n
invariant-loop-n l = (k : ℕ) → k < l.n → HasEntry (tree_of l.snapshot) l.name k → ⊥
