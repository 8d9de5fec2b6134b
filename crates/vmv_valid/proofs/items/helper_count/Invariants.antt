use Rattle.std.proofs.Common.{◌≡◌, ◌+◌, ◌≤◌, drop}
use Rattle.vmv_tree.specs.View.{items_of}
use Rattle.vmv_tree.specs.Limits.{helper_count}
use Rattle.vmv_valid.proofs.items.helper_count.Given as goal

-- so many so far, with those that are left, are all
abbrev pub invariant-loop-item : goal.invariant-loop-item
invariant-loop-item l = record {
  told : l.count + helper_count (items_of (drop l.item-index l.items)) ≡ helper_count (items_of l.items);
  few : l.count ≤ l.item-index;
}
