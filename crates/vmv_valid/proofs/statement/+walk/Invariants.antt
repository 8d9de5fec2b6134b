use Rattle.std.proofs.Common.{◌≡◌, ◌+◌, ◌*◌, ◌≤◌, ◌++◌, drop}
use Rattle.vmv_tree.specs.View.{stmt_of, block_of}
use Rattle.vmv_tree.specs.Limits.{block_indexes, statements, block_statements}
use Rattle.vmv_valid.specs.Walks.{walk_block}
use Rattle.vmv_valid.proofs.statement.+walk.Given as goal

-- the walk over what is left is that over all
abbrev pub invariant-walk_block-loop-stmt : goal.invariant-walk_block-loop-stmt
invariant-walk_block-loop-stmt l =
    let rest = block_of (drop l.stmt-index l.block) in
    let sight = l.sight in
    record {
      told : walk_block sight.callees.now sight.names.now sight.indexes.now l.declared.items l.next rest
          ≡ walk_block sight.callees.now sight.names.now sight.indexes.now l.fn.declared.items l.at (block_of l.block);
      declared : l.declared.items ++ block_indexes rest ≡ l.fn.declared.items ++ block_indexes (block_of l.block);
      fewer : block_statements rest ≤ block_statements (block_of l.block);
      room : l.next + 300 * block_statements rest ≤ l.at + 300 * block_statements (block_of l.block);
    }

abbrev pub decreases-walk_stmt : goal.decreases-walk_stmt
decreases-walk_stmt l = 2 * statements (stmt_of l.stmt.now)

abbrev pub decreases-walk_block : goal.decreases-walk_block
decreases-walk_block l = 2 * block_statements (block_of l.block.now) + 1
