use Rattle.std.proofs.Common.{◌≡◌}
use Rattle.vmv_assumption.specs.Assumed.{names_of, cond_of}
use Rattle.vmv_snapshot.specs.Procs.{outsides}
use Rattle.vmv_snapshot.specs.Resolution.{tree_of}
use Rattle.vmv_enough.proofs.Levelled.{IsLevelledUpto}
use Rattle.vmv_enough.proofs.levels.keep_to_level.Given as goal

abbrev pub invariant-loop-name : goal.invariant-loop-name
invariant-loop-name l =
    (names_of l.assumed ≡ names_of l.fn.assumed) × IsLevelledUpto l.level (outsides (tree_of l.base)) (cond_of l.fn.assumed) (cond_of l.assumed) l.name-index
