use Rattle.std.proofs.Common.{◌≡◌, ◌*◌, ◌≤◌, [], take, drop, reverse}
use Rattle.vmv_tree.specs.View.{items_of}
use Rattle.vmv_valid.specs.Measures.{callees_of}
use Rattle.vmv_valid.specs.Walks.{walk_items, HasRoom}
use Rattle.vmv_valid.proofs.first.walk_items.Given as goal

-- the walk over what is left is that over all
abbrev pub invariant-loop-i : goal.invariant-loop-i
invariant-loop-i l =
    let above = reverse (items_of (take l.i l.items)) in
    record {
      told : walk_items l.counts above l.next (items_of (drop l.i l.items)) ≡ walk_items l.counts [] 0 (items_of l.items);
      callees : l.callees.items ≡ callees_of above;
      kinds : HasRoom above;
      room : l.next ≤ 700000 * l.i;
    }
