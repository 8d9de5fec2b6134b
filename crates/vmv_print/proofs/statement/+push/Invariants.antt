use Rattle.std.proofs.Common.{◌≡◌, ◌++◌, drop}
use Rattle.vmv_tree.specs.View.{block_of}
use Rattle.vmv_print.specs.Canonical.{block_text}
use Rattle.vmv_print.proofs.Writing.{PrintableBlock}
use Rattle.vmv_print.proofs.statement.+push.Given as goal

-- what is written so far, with the rest, is the whole, and can be written where the rest can
abbrev pub invariant-push_block-loop-stmt : goal.invariant-push_block-loop-stmt
invariant-push_block-loop-stmt l = record {
  text : l.out.items ++ block_text l.indent (block_of (drop l.stmt-index l.block)) ≡ l.fn.out.items ++ block_text l.indent (block_of l.block);
  written : PrintableBlock (block_of (drop l.stmt-index l.block)) → PrintableBlock (block_of l.block);
}
