use Rattle.std.proofs.Common.{◌≡◌, ◌++◌, drop}
use Rattle.vmv_tree.specs.Limits.{block_indexes}
use Rattle.vmv_tree.specs.View.{block_of}
use Rattle.vmv_snapshot.specs.Resolves.{loop_names}
use Rattle.vmv_snapshot.proofs.slots.+loops.Given as goal

abbrev pub invariant-push_block_loops-loop-stmt : goal.invariant-push_block_loops-loop-stmt
invariant-push_block_loops-loop-stmt l =
    l.slots.items ++ loop_names (block_indexes (block_of (drop l.stmt-index l.block)))
    ≡ l.initial.slots.items ++ loop_names (block_indexes (block_of l.block))
