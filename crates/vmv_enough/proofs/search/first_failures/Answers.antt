use denote.Param.Send.{sendable}
use Rattle.std.proofs.Common.{◌≡◌, length, refl, sym, ◌∙◌, arith}
use Rattle.vmv_assumption.specs.Assumed.{cond_of}
use Rattle.vmv_lent.proofs.Snapshots.{snapshot_sync}
use Rattle.vmv_assumption.proofs.assumed.Assumption.TheSendSync as assumption
use Rattle.vmv_enough.proofs.probe.Probe.TheSendSync as probe
use Rattle.vmv_enough.proofs.Searched.{left_start, left_more, left_none, searched_failures}
use Rattle.vmv_enough.proofs.search.first_failures.Goals as goal

pub fan-requires-sync-J : goal.fan-requires-sync-J
fan-requires-sync-J g c κs within = let base = snapshot_sync in let probed = probe.the_sync in let assumed = assumption.the_sync in search sendable depth 20

pub loop-one-init : goal.loop-one-init
loop-one-init g c =
    let t = c.args.trying.now in
    left_start t.revision.now t.entry.0 (cond_of t.enough.now) t.probes.now _ _ _ _ c.new-found.ensures (c.into_iter-one-iterator.ensures.into_iter_gives.0 ∙ c.into_vec-one-items.ensures) refl c.in_ok-tried.ensures.answers c.in_ok-tried.ensures.count

pub loop-one-preserved : goal.loop-one-preserved
loop-one-preserved g c =
    let t = c.args.trying.now in
    left_more t.revision.now t.entry.0 (cond_of t.enough.now) t.probes.now _ _ c.in-Some.one _ _ c.in-Some.ensures.steps.0 c.in_ok-add_first.ensures c.loop-one.invariant

pub returns-clause-failures : goal.returns-clause-failures
returns-clause-failures g c =
    let t = c.args.trying.now in
    let none : length c.loop-one.one-iterator.rest.items ≡ 0 = sym c.loop-one.one-iterator.rest.ok.0 ∙ c.in-None.ensures.steps.0 in
    searched_failures t.revision.now t.entry.0 (cond_of t.enough.now) t.probes.now (length t.probes.now) c.loop-one.found (omega arith) (left_none t.revision.now t.entry.0 (cond_of t.enough.now) t.probes.now _ c.loop-one.found none c.loop-one.invariant)

pub returns-clause-runs : goal.returns-clause-runs
returns-clause-runs g c = c.loop-one.invariant.searched.runs
