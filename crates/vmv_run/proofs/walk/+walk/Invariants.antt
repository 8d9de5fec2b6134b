use Rattle.std.proofs.Common.{◌≡◌, ◌+◌, ◌-◌, ◌*◌, length}
use Rattle.vmv_snapshot.specs.Code.{loop}
use Rattle.vmv_snapshot.specs.View.{stmt_of, block_of}
use Rattle.vmv_snapshot.specs.Resolution.{tree_of}
use Rattle.vmv_run.specs.Walk.{size, block_size, budget}
use Rattle.vmv_run.proofs.Rules.{Turning}
use Rattle.vmv_run.proofs.Sizes.{InRow}
use Rattle.vmv_run.proofs.walk.+walk.Given as goal

abbrev pub decreases-walk_stmt : goal.decreases-walk_stmt
decreases-walk_stmt l = budget l.snapshot.now.codes l.proc.0 + 3 * size (stmt_of l.stmt.now)

abbrev pub decreases-walk_block : goal.decreases-walk_block
decreases-walk_block l = budget l.snapshot.now.codes l.proc.0 + 3 * block_size (block_of l.block.now) + 1

abbrev pub decreases-walk_repeat : goal.decreases-walk_repeat
decreases-walk_repeat l = budget l.snapshot.now.codes l.proc.0 + 3 * block_size (block_of l.repeat.now.body) + 2

abbrev pub decreases-walk_proc : goal.decreases-walk_proc
decreases-walk_proc l = budget l.snapshot.now.codes (l.proc.0 + 1)

abbrev pub invariant-walk_block-loop-stmt : goal.invariant-walk_block-loop-stmt
invariant-walk_block-loop-stmt l = InRow (tree_of l.snapshot) l.proc.0 l.block l.stmt-index l.initial.frame l.frame l.initial.source l.source

abbrev pub invariant-walk_repeat-loop-i : goal.invariant-walk_repeat-loop-i
invariant-walk_repeat-loop-i l =
    record {
      long : length l.frame ≡ 256;
      turning : Turning (tree_of l.snapshot) l.proc.0 (loop l.repeat.index l.repeat.slot l.repeat.bound l.repeat.cap l.repeat.site (block_of l.repeat.body)) l.initial.frame l.frame l.initial.source l.source l.i (l.i-end - l.i);
    }
