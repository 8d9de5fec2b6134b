use denote.Param.Send.{sendable}
use Rattle.std.proofs.Common.{◌≡◌, length, sym, ◌∙◌}
use Rattle.sqlite_items.proofs.items.Items.TheSendSync as items
use Rattle.vmv_tree.proofs.ends.NameEnds.TheSendSync as name_ends
use Rattle.vmv_lent.proofs.Snapshots.{snapshot_sync}
use Rattle.vmv_enough.proofs.Planned.{planned_start, planned_more, planned_all}
use Rattle.vmv_enough.proofs.plan.subjects_of.Goals as goal

pub fan-requires-sync-J : goal.fan-requires-sync-J
fan-requires-sync-J g c κs within = let base = snapshot_sync in let ends = items.the_sync _ name_ends.the_sync in search sendable depth 20

pub loop-one-init : goal.loop-one-init
loop-one-init g c =
    planned_start c.args.base.now c.args.ends.now _ _ _ _ c.new-subjects.ensures (c.into_iter-one-iterator.ensures.into_iter_gives.0 ∙ c.into_vec-one-items.ensures) (c.from-count.ensures ∙ c.proc_count.ensures) c.in_ok-found.ensures.answers c.in_ok-found.ensures.count

pub loop-one-preserved : goal.loop-one-preserved
loop-one-preserved g c =
    planned_more c.args.base.now c.args.ends.now _ _ c.in-Some.one _ _ c.in-Some.ensures.steps.0 c.in_ok-add_found.ensures c.loop-one.invariant

pub returns : goal.returns
returns g c =
    let none : length c.loop-one.one-iterator.rest.items ≡ 0 = sym c.loop-one.one-iterator.rest.ok.0 ∙ c.in-None.ensures.steps.0 in
    planned_all c.args.base.now c.args.ends.now _ c.loop-one.subjects none c.loop-one.invariant
