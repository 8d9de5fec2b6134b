use Rattle.vmv_assumption.specs.Assumed.{cond_of}
use Rattle.vmv_enough.specs.OpenBy.{NoneBefore}
use Rattle.vmv_enough.proofs.open.first_of.Given as goal

abbrev pub invariant-loop-demand : goal.invariant-loop-demand
invariant-loop-demand l = NoneBefore l.base l.sites (cond_of l.assumed) l.demands l.demand-index
