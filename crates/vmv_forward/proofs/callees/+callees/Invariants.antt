use Rattle.std.proofs.Common.{◌≡◌, ◌++◌, drop}
use Rattle.vmv_snapshot.specs.View.{block_of}
use Rattle.vmv_pass.specs.Callees.{block_callees}
use Rattle.vmv_forward.proofs.callees.+callees.Given as goal

abbrev pub invariant-add_block_callees-loop-stmt : goal.invariant-add_block_callees-loop-stmt
invariant-add_block_callees-loop-stmt l = l.list.items ++ block_callees (block_of (drop l.stmt-index l.block)) ≡ l.initial.list.items ++ block_callees (block_of l.block)
