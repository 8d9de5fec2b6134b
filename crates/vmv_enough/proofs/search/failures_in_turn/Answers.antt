use Rattle.vmv_assumption.specs.Assumed.{cond_of}
use Rattle.vmv_enough.proofs.Searched.{searched_start, searched_more, searched_failures}
use Rattle.vmv_enough.proofs.search.failures_in_turn.Goals as goal

pub loop-place-init : goal.loop-place-init
loop-place-init c =
    let t = c.args.trying.now in
    searched_start t.revision.now t.entry.0 (cond_of t.enough.now) t.probes.now _ c.new-found.ensures

pub loop-place-preserved : goal.loop-place-preserved
loop-place-preserved c =
    let t = c.args.trying.now in
    searched_more t.revision.now t.entry.0 (cond_of t.enough.now) t.probes.now c.loop-place.place c.in_ok-tried.tried c.loop-place.found _ c.loop-place-test.true c.in_ok-tried.ensures c.in_ok-add_first.ensures c.loop-place.invariant

pub returns-clause-failures : goal.returns-clause-failures
returns-clause-failures c =
    let t = c.args.trying.now in
    searched_failures t.revision.now t.entry.0 (cond_of t.enough.now) t.probes.now c.loop-place.place c.loop-place.found c.loop-place-test.false c.loop-place.invariant

pub returns-clause-runs : goal.returns-clause-runs
returns-clause-runs c = c.loop-place.invariant.runs
