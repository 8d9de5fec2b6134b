use Rattle.std.proofs.Common.{arith}
use Rattle.vmv_valid.proofs.NextItem.{told_more, callees_more, room_kept, few_above}
use Rattle.vmv_valid.proofs.first.walk_items.Goals as goal
use Rattle.std.proofs.Common.{◌∙◌}

pub walk_item-requires-clause-room : goal.walk_item-requires-clause-room
walk_item-requires-clause-room c =
    let few = few_above c.args.items.now c.loop-i.i c.loop-i-test.true c.loop-i.invariant.kinds in
    omega (arith, few, c.loop-i.invariant.room)

pub loop-i-preserved : goal.loop-i-preserved
loop-i-preserved c =
    let items = c.args.items.now in
    let item = c.index-items-i.result in
    let below = c.loop-i-test.true in
    let is = c.index-items-i.is in
    let walked = c.in_ok-next.ensures.walked in
    record {
      told = told_more c.args.counts items c.loop-i.i c.loop-i.next c.in_ok-next.next item below is walked ∙ c.loop-i.invariant.told;
      callees = callees_more items c.loop-i.i item c.loop-i.callees.items c.add_called.new.callees.items below is c.loop-i.invariant.callees c.in_ok-add_called.ensures;
      kinds = room_kept c.args.counts items c.loop-i.i c.loop-i.next c.in_ok-next.next item below is c.loop-i.invariant.kinds walked;
      room = omega (arith, c.in_ok-next.ensures.next, c.loop-i.invariant.room);
    }
