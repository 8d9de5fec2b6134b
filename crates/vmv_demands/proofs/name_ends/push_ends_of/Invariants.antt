use Rattle.std.proofs.Common.{◌≡◌, ◌++◌, drop}
use Rattle.vmv_demands.specs.Ends.{ends_of}
use Rattle.vmv_demands.proofs.name_ends.push_ends_of.Given as goal

abbrev pub invariant-loop-found : goal.invariant-loop-found
invariant-loop-found l = l.ends ++ ends_of l.name (drop l.found-index l.wanted) ≡ l.initial.ends ++ ends_of l.name l.wanted
