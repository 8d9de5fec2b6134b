use Rattle.std.proofs.Common.{take}
use Rattle.vmv_assumption.specs.Assumed.{cond_of}
use Rattle.vmv_enough.specs.Probes.{of_mode}
use Rattle.vmv_enough.specs.Kept.{Adds}
use Rattle.vmv_enough.proofs.probes.add_mode.Given as goal

abbrev pub invariant-loop-demand : goal.invariant-loop-demand
invariant-loop-demand l = Adds (cond_of l.enough) (of_mode (take l.demand-index l.demands) l.within l.mode) l.fn.probes l.probes
