use Rattle.std.proofs.Common.{◌≡◌, ◌≤◌, ◌+◌, ◌*◌, cond, IsFalse}
use Rattle.vmv_forward.specs.Rounds.{quest_of, AreKept, AreWaiting, all_rooms, all_ranks, HaveFew}
use Rattle.vmv_forward.specs.Paths.{loops_of}
use Rattle.vmv_forward.specs.Waiting.{AreDone}
use Rattle.vmv_forward.proofs.rounds.settle.Given as goal

abbrev pub invariant-loop-raised : goal.invariant-loop-raised
invariant-loop-raised g l = record {
  kept : AreKept (quest_of l.search) l.instances;
  waiting : AreWaiting (quest_of l.search) l.instances l.waiting;
  done : IsFalse l.raised → AreDone l.waiting;
  few : HaveFew l.initial.instances → HaveFew l.instances;
  loops : loops_of l.instances ≡ loops_of l.initial.instances;
  cost : l.steps + all_ranks l.search.thresholds.now l.initial.instances ≤ l.initial.steps + all_ranks l.search.thresholds.now l.instances;
}

abbrev pub decreases-loop-raised : goal.decreases-loop-raised
decreases-loop-raised g l = 2 * all_rooms l.instances + cond l.raised 1 0
