use Rattle.std.proofs.Common.{◌≡◌, map, drop}
use Rattle.vmv_tree.specs.Run.{name_of}
use Rattle.vmv_tree.specs.View.{items_of}
use Rattle.vmv_valid.specs.Names.{is_among}
use Rattle.vmv_valid.proofs.items.is_declared.Given as goal

abbrev pub invariant-loop-item : goal.invariant-loop-item
invariant-loop-item l =
    is_among (map name_of (items_of (drop l.item-index l.items))) l.name ≡ is_among (map name_of (items_of l.items)) l.name
