use Rattle.std.proofs.Common.{◌≡◌, ◌++◌, take}
use Rattle.std.specs.List.{flat_map}
use Rattle.vmv_need.specs.Candidates.{of_box}
use Rattle.vmv_need.proofs.candidate.add_subject.Given as goal

abbrev pub invariant-loop-within : goal.invariant-loop-within
invariant-loop-within l =
    l.candidates.items ≡ l.initial.candidates.items ++ flat_map (of_box l.subject.entry l.subject.demands) (take l.within-index l.subject.boxes)
