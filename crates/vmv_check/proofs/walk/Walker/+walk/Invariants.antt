use Rattle.std.proofs.Common.{◌+◌, ◌*◌}
use Rattle.vmv_snapshot.specs.View.{stmt_of, block_of}
use Rattle.vmv_cert.specs.Sizes.{statements, block_statements}
use Rattle.vmv_check.specs.Walker.{walk_of}
use Rattle.vmv_check.proofs.Walking.{InRow}
use Rattle.vmv_check.proofs.walk.Walker.+walk.Given as goal

abbrev pub invariant-walk_block-loop-stmt : goal.invariant-walk_block-loop-stmt
invariant-walk_block-loop-stmt l = InRow (walk_of l.self) l.initial.place.step l.initial.place.keep l.block l.initial.zone l.stmt-index l.place.step l.place.keep l.zone

abbrev pub decreases-walk_stmt : goal.decreases-walk_stmt
decreases-walk_stmt l = 3 * statements (stmt_of l.stmt.now)

abbrev pub decreases-walk_if : goal.decreases-walk_if
decreases-walk_if l = 3 * (block_statements (block_of l.first.now) + block_statements (block_of l.second.now)) + 2

abbrev pub decreases-walk_repeat : goal.decreases-walk_repeat
decreases-walk_repeat l = 3 * block_statements (block_of l.repeat.now.body) + 2

abbrev pub decreases-walk_block : goal.decreases-walk_block
decreases-walk_block l = 3 * block_statements (block_of l.block.now) + 1
