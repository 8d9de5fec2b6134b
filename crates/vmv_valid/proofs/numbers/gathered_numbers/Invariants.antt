use Rattle.std.proofs.Common.{◌≡◌, ◌≤◌, length, take, reverse}
use Rattle.vmv_tree.specs.View.{body_of, items_of}
use Rattle.vmv_valid.specs.Numbers.{reached, reached_by}
use Rattle.vmv_valid.proofs.numbers.gathered_numbers.Given as goal

-- what is reached over the items that are left is what is reached over all
abbrev pub invariant-loop-left : goal.invariant-loop-left
invariant-loop-left l = record {
  within : l.left ≤ length l.above;
  told : reached (reverse (items_of (take l.left l.above))) l.numbers.items l.names.items ≡ reached_by (reverse (items_of l.above)) l.params (body_of l.body);
}

abbrev pub decreases-loop-left : goal.decreases-loop-left
decreases-loop-left l = l.left
