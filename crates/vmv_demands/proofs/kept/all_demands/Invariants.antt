use Rattle.std.proofs.Common.{take}
use Rattle.std.specs.List.{AllZip}
use Rattle.vmv_demands.specs.Demands.{IsDemand}
use Rattle.vmv_demands.proofs.kept.all_demands.Given as goal

abbrev pub invariant-loop-found : goal.invariant-loop-found
invariant-loop-found l = AllZip IsDemand (take l.found-index l.wanted) l.demands
