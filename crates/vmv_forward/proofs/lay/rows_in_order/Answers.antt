use Rattle.std.proofs.Common.{◌+◌, ◌≤◌, List, length, arith, subst}
use Rattle.vmv_cert.specs.declared.row.Row.{Row}
use Rattle.vmv_forward.specs.Rounds.{quest_of}
use Rattle.vmv_forward.specs.Rows.{Lays}
use Rattle.vmv_forward.proofs.Gathering.{entry_reached}
use Rattle.vmv_forward.proofs.lay.rows_in_order.Goals as goal

pub lay-requires-clause-reached : goal.lay-requires-clause-reached
lay-requires-clause-reached c = let e = entry_reached (quest_of c.args.search.now) c.args.instances.now c.requires.kept in (e.0, c.args.search.now.input.now, e.1, e.2, c.requires.reached)

pub returns : goal.returns
returns c =
    let e = entry_reached (quest_of c.args.search.now) c.args.instances.now c.requires.kept in
    let few : length c.args.instances.now ≤ 1 + length c.args.instances.now = omega arith in
    subst (λ (rs : List Row). Lays (length c.args.instances.now) c.args.search.now.snapshot.now c.args.instances.now 1 c.args.search.now.input.now rs c.lay.new.rows.items) c.new-rows.ensures.items
    (c.in_ok-lay.ensures e.0 c.args.search.now.input.now e.1 e.2 (length c.args.instances.now) few)
