use Rattle.std.proofs.Common.{◌≡◌, ◌++◌, take}
use Rattle.std.specs.List.{flat_map}
use Rattle.vmv_need.specs.Candidates.{of_demand}
use Rattle.vmv_need.proofs.candidate.add_box.Given as goal

abbrev pub invariant-loop-demand : goal.invariant-loop-demand
invariant-loop-demand l =
    l.candidates.items ≡ l.initial.candidates.items ++ flat_map (of_demand l.entry l.within) (take l.demand-index l.demands)
