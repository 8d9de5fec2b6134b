use Rattle.vmv_assumption.specs.Assumed.{cond_of}
use Rattle.vmv_enough.proofs.Ready.{ready}
use Rattle.vmv_enough.proofs.Searched.{failures_along, contains_along}
use Rattle.vmv_enough.proofs.search.witnesses.Goals as goal

pub returns-clause-found : goal.returns-clause-found
returns-clause-found g c =
    (c.in_ok-probes.probes, c.in_ok-probes.ensures, failures_along c.args.revision.now c.args.entry.0 (cond_of c.args.enough.now) _ c.in_ok-probes.probes c.in_ok-first_failures.field-0 c.as_slice.ensures c.in_ok-first_failures.ensures.failures)

pub first_failures-requires-clause-ready : goal.first_failures-requires-clause-ready
first_failures-requires-clause-ready g c = λ κs within probe there.
    ready c.args.revision.now c.args.entry.0 (cond_of c.args.enough.now) c.in_ok-probes.probes probe c.requires.entry c.in_ok-probes.ensures (contains_along _ c.in_ok-probes.probes probe c.as_slice.ensures there)
