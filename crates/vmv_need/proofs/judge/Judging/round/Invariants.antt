use Rattle.std.proofs.Common.{◌≡◌, List, ◌++◌, length, take}
use Rattle.vmv_assumption.specs.Assumed.{names_of, cond_of}
use Rattle.vmv_need.specs.declared.cut.Cut.{Cut}
use Rattle.vmv_need.specs.Acts.{Acts}
use Rattle.vmv_need.specs.Rounds.{AreTurns}
use Rattle.vmv_need.proofs.judge.Judging.round.Given as goal

abbrev pub invariant-loop-place : goal.invariant-loop-place
invariant-loop-place g l =
    (names_of l.running ≡ names_of l.self.frozen.now)
    × ((made : List Cut) × AreTurns (Acts l.self.base.now l.self.plan.now.scope (cond_of l.self.frozen.now)) (length l.initial.cuts) (take l.place l.self.plan.now.candidates.items) (cond_of l.self.frozen.now) made (cond_of l.running) × (l.cuts ≡ l.initial.cuts ++ made))
