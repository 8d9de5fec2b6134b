use Rattle.std.proofs.Common.{ℕ, ◌<◌}
use Rattle.vmv_snapshot.specs.Resolution.{tree_of}
use Rattle.vmv_thresholds.specs.Collect.{CallsFrom}
use Rattle.vmv_thresholds.proofs.calls.reaches_outside.Given as goal

abbrev pub invariant-loop-n : goal.invariant-loop-n
invariant-loop-n l = (k : ℕ) → k < l.n → CallsFrom (tree_of l.snapshot) l.from.0 l.name k → ⊥
