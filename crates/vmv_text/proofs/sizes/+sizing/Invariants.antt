use Rattle.std.proofs.Common.{◌≡◌, drop}
use Rattle.vmv_tree.specs.View.{block_of}
use Rattle.vmv_text.specs.Sizes.{none, sized_after}
use Rattle.vmv_text.proofs.sizes.+sizing.Given as goal

-- with those that are left, all are measured
abbrev pub invariant-block_sizes-loop-stmt : goal.invariant-block_sizes-loop-stmt
invariant-block_sizes-loop-stmt l = sized_after l.all (block_of (drop l.stmt-index l.block)) ≡ sized_after none (block_of l.block)
