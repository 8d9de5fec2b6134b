use Rattle.std.proofs.Common.{◌+◌, ◌*◌}
use Rattle.vmv_tree.specs.View.{stmt_of, block_of}
use Rattle.vmv_tree.specs.Limits.{statements, block_statements}
use Rattle.vmv_snapshot.proofs.Walk.{Kept}
use Rattle.vmv_snapshot.proofs.resolver.Resolver.+resolve.Given as goal

abbrev pub invariant-block-loop-stmt : goal.invariant-block-loop-stmt
invariant-block-loop-stmt l = Kept l.self l.initial.count l.count l.block l.stmt-index l.codes

abbrev pub decreases-stmt : goal.decreases-stmt
decreases-stmt l = 2 * statements (stmt_of l.stmt.now)

abbrev pub decreases-block : goal.decreases-block
decreases-block l = 2 * block_statements (block_of l.block.now) + 1
