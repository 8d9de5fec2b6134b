use Rattle.std.proofs.Common.{◌≡◌, ◌++◌, ◌∷◌, ◌-◌, ◌^◌, pos, drop}
use Rattle.vmv_thresholds.specs.Collect.{around_all}
use Rattle.vmv_thresholds.proofs.thresholds.around_all.Given as goal

-- what is there, with what stands around the other seeds, is all
abbrev pub invariant-loop-seed : goal.invariant-loop-seed
invariant-loop-seed l = l.list.items ++ around_all (drop l.seed-index l.seeds) ≡ pos (2 ^ 64 - 1) ∷ around_all l.seeds
