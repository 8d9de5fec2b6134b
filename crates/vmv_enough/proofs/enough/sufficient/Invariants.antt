use Rattle.std.proofs.Common.{◌≡◌}
use Rattle.vmv_assumption.specs.Assumed.{names_of, cond_of}
use Rattle.vmv_snapshot.specs.Procs.{outsides}
use Rattle.vmv_snapshot.specs.Resolution.{tree_of}
use Rattle.vmv_enough.specs.Measure.{room}
use Rattle.vmv_enough.proofs.Tightened.{IsTightened}
use Rattle.vmv_enough.proofs.enough.sufficient.Given as goal

abbrev pub invariant-tightening : goal.invariant-tightening
invariant-tightening g l = IsTightened l.base l.plan.ends (cond_of l.fn.needed) (cond_of l.assumed) l.taken × (names_of l.assumed ≡ outsides (tree_of l.base))

abbrev pub decreases-tightening : goal.decreases-tightening
decreases-tightening g l = room l.base (cond_of l.assumed) l.taken
