use Rattle.std.proofs.Common.{◌≡◌}
use Rattle.vmv_snapshot.specs.Procs.{outsides}
use Rattle.vmv_snapshot.specs.Resolution.{tree_of}
use Rattle.vmv_assumption.specs.Assumed.{names_of, cond_of}
use Rattle.vmv_need.specs.Candidates.{candidates_of}
use Rattle.vmv_need.proofs.Meeting.{meeting}
use Rattle.vmv_need.proofs.Pushed.{IsSoFar}
use Rattle.vmv_need.proofs.round.rounds.Given as goal

abbrev pub invariant-rounds : goal.invariant-rounds
invariant-rounds g l =
    (names_of l.frozen ≡ outsides (tree_of l.base)) × IsSoFar l.base l.plan.scope (cond_of l.frozen) l.cuts

abbrev pub decreases-rounds : goal.decreases-rounds
decreases-rounds g l = meeting (candidates_of l.plan.scope) (cond_of l.frozen)
