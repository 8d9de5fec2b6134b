use Rattle.std.proofs.Common.{◌≡◌, ◌++◌, drop}
use Rattle.vmv_tree.specs.View.{items_of}
use Rattle.vmv_print.specs.Canonical.{canonical}
use Rattle.vmv_print.proofs.Writing.{PrintableItems}
use Rattle.vmv_print.proofs.item.push_items.Given as goal

abbrev pub invariant-loop-item : goal.invariant-loop-item
invariant-loop-item l = record {
  text : l.out.items ++ canonical (items_of (drop l.item-index l.items)) ≡ l.fn.out.items ++ canonical (items_of l.items);
  written : PrintableItems (items_of (drop l.item-index l.items)) → PrintableItems (items_of l.items);
}
