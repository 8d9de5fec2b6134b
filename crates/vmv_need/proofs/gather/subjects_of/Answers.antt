use denote.Param.Send.{sendable}
use Rattle.std.proofs.Common.{◌≡◌, length, sym, ◌∙◌, arith}
use Rattle.vmv_lent.proofs.Snapshots.{snapshot_sync}
use Rattle.vmv_need.proofs.First.{few_subjects}
use Rattle.vmv_need.proofs.Gathered.{gathered_start, gathered_more, gathered_all}
use Rattle.vmv_need.proofs.gather.subjects_of.Goals as goal

pub fan-requires-sync-J : goal.fan-requires-sync-J
fan-requires-sync-J g c κs within = let base = snapshot_sync in search sendable depth 20

pub loop-one-init : goal.loop-one-init
loop-one-init g c =
    gathered_start c.args.base.now _ _ _ _ c.new-subjects.ensures (c.into_iter-one-iterator.ensures.into_iter_gives.0 ∙ c.into_vec-one-items.ensures) (c.from-count.ensures ∙ c.proc_count.ensures) c.in_ok-found.ensures.answers c.in_ok-found.ensures.count

pub loop-one-preserved : goal.loop-one-preserved
loop-one-preserved g c = gathered_more c.args.base.now _ _ c.in-Some.one _ _ c.in-Some.ensures.steps.0 c.in_ok-add_found.ensures c.loop-one.invariant

pub returns : goal.returns
returns g c =
    let none : length c.loop-one.one-iterator.rest.items ≡ 0 = sym c.loop-one.one-iterator.rest.ok.0 ∙ c.in-None.ensures.steps.0 in
    let first = gathered_all c.args.base.now _ c.loop-one.subjects none c.loop-one.invariant in
    let few = few_subjects _ _ first in
    record { first = first; few = omega (arith, few, c.proc_count.ensures, c.proc_count.type_inv) }
