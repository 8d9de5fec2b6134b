use Rattle.std.proofs.Common.{◌≡◌, ◌≤◌, ◌+◌}
use Rattle.vmv_forward.specs.Rounds.{quest_of, AreKept, AreWaiting, all_rooms, all_ranks, HaveFew}
use Rattle.vmv_forward.specs.Paths.{loops_of}
use Rattle.vmv_forward.specs.Waiting.{load}
use Rattle.vmv_forward.proofs.rounds.sweep.Given as goal

abbrev pub invariant-loop-item : goal.invariant-loop-item
invariant-loop-item g l = record {
  kept : AreKept (quest_of l.search) l.instances;
  waiting : AreWaiting (quest_of l.search) l.instances l.waiting;
  stays : all_rooms l.instances ≡ all_rooms l.initial.instances;
  few : HaveFew l.initial.instances → HaveFew l.instances;
  loops : loops_of l.instances ≡ loops_of l.initial.instances;
  cost : l.steps + all_ranks l.search.thresholds.now l.initial.instances ≤ l.initial.steps + all_ranks l.search.thresholds.now l.instances;
}

abbrev pub decreases-loop-item : goal.decreases-loop-item
decreases-loop-item g l = load l.waiting
