use Rattle.std.proofs.Common.{take}
use Rattle.vmv_assumption.specs.Assumed.{cond_of}
use Rattle.vmv_enough.specs.Probes.{tries}
use Rattle.vmv_enough.specs.Kept.{Adds}
use Rattle.vmv_enough.proofs.probes.add_boxes.Given as goal

abbrev pub invariant-loop-within : goal.invariant-loop-within
invariant-loop-within l = Adds (cond_of l.enough) (tries (take l.within-index l.boxes) l.demands) l.fn.probes l.probes
