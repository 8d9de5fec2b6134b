use Rattle.vmv_assumption.specs.Assumed.{cond_of}
use Rattle.vmv_enough.proofs.Ready.{ready}
use Rattle.vmv_enough.proofs.Searched.{failures_along, contains_along}
use Rattle.vmv_enough.proofs.search.witnesses_in_turn.Goals as goal

pub failures_in_turn-requires-clause-ready : goal.failures_in_turn-requires-clause-ready
failures_in_turn-requires-clause-ready c = λ probe there.
    ready c.args.revision.now c.args.entry.0 (cond_of c.args.enough.now) c.in_ok-probes.probes probe c.requires.entry c.in_ok-probes.ensures (contains_along _ c.in_ok-probes.probes probe c.as_slice.ensures there)

pub returns-clause-found : goal.returns-clause-found
returns-clause-found c =
    (c.in_ok-probes.probes, c.in_ok-probes.ensures, failures_along c.args.revision.now c.args.entry.0 (cond_of c.args.enough.now) _ c.in_ok-probes.probes c.in_ok-failures_in_turn.field-0 c.as_slice.ensures c.in_ok-failures_in_turn.ensures.failures)
