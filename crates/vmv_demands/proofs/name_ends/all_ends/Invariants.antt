use Rattle.std.proofs.Common.{◌≡◌, map, take}
use Rattle.vmv_demands.specs.Ends.{ends_for}
use Rattle.vmv_demands.proofs.name_ends.all_ends.Given as goal

abbrev pub invariant-loop-name : goal.invariant-loop-name
invariant-loop-name l = l.ends ≡ map (ends_for l.wanted) (take l.name-index l.names)
