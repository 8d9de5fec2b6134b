use Rattle.vmv_assumption.specs.Assumed.{cond_of}
use Rattle.vmv_enough.proofs.Searched.{IsSearched}
use Rattle.vmv_enough.proofs.search.failures_in_turn.Given as goal

abbrev pub invariant-loop-place : goal.invariant-loop-place
invariant-loop-place l = IsSearched l.trying.revision.now l.trying.entry.0 (cond_of l.trying.enough.now) l.trying.probes.now l.place l.found
