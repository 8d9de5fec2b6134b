use Rattle.std.proofs.Common.{ℕ, ◌<◌}
use Rattle.vmv_snapshot.specs.Resolution.{tree_of}
use Rattle.vmv_witness.specs.Fit.{IsSiteIn}
use Rattle.vmv_witness.proofs.fitting.has_site.Given as goal

abbrev pub invariant-loop-n : goal.invariant-loop-n
invariant-loop-n l = (m : ℕ) → m < l.n → IsSiteIn (tree_of l.snapshot) l.entry.0 l.site m → ⊥
