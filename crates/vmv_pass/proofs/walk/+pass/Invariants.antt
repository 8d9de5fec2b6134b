use Rattle.std.proofs.Common.{◌+◌, ◌*◌, length}
use Rattle.vmv_snapshot.specs.View.{stmt_of, block_of}
use Rattle.vmv_cert.specs.Sizes.{statements, block_statements}
use Rattle.vmv_pass.specs.Moves.{given_of, lists}
use Rattle.vmv_pass.specs.Told.{AreTold}
use Rattle.vmv_pass.proofs.Rows.{InRow}
use Rattle.vmv_pass.proofs.walk.+pass.Given as goal

abbrev pub invariant-pass_block-loop-stmt : goal.invariant-pass_block-loop-stmt
invariant-pass_block-loop-stmt g l =
    record {
      row : InRow l.at.snapshot.now (given_of l.at) (length l.initial.unproved) l.initial.mark.keep l.initial.mark.call l.block l.initial.zone (lists l.initial.keeps l.initial.inputs l.initial.unproved l.initial.mark.raised l.initial.mark.looped l.initial.steps) l.stmt-index
          l.mark.keep l.mark.call l.zone (lists l.keeps l.inputs l.unproved l.mark.raised l.mark.looped l.steps);
      told : AreTold l.initial.inputs l.initial.risen l.inputs l.risen;
    }

abbrev pub decreases-pass_stmt : goal.decreases-pass_stmt
decreases-pass_stmt g l = 3 * statements (stmt_of l.stmt.now)

abbrev pub decreases-pass_if : goal.decreases-pass_if
decreases-pass_if g l = 3 * (block_statements (block_of l.first.now) + block_statements (block_of l.second.now)) + 2

abbrev pub decreases-pass_repeat : goal.decreases-pass_repeat
decreases-pass_repeat g l = 3 * block_statements (block_of l.repeat.now.body) + 2

abbrev pub decreases-pass_block : goal.decreases-pass_block
decreases-pass_block g l = 3 * block_statements (block_of l.block.now) + 1
