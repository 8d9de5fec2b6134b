use Rattle.vmv_assumption.specs.Assumed.{cond_of}
use Rattle.vmv_enough.proofs.Searched.{IsLeft}
use Rattle.vmv_enough.proofs.search.first_failures.Given as goal

abbrev pub invariant-loop-one : goal.invariant-loop-one
invariant-loop-one g l = IsLeft l.trying.revision.now l.trying.entry.0 (cond_of l.trying.enough.now) l.trying.probes.now l.one-iterator.rest.items l.found
