use Rattle.std.proofs.Common.{◌+◌, ◌*◌, ◌≤◌, length}
use Rattle.vmv_text.specs.Symbols.{as_token}
use Rattle.vmv_text.proofs.Blocks.{ReachedPart}
use Rattle.vmv_text.proofs.cursor.Cursor.+statements.Given as goal

abbrev pub decreases-block : goal.decreases-block
decreases-block l = 8 * length l.self.now

abbrev pub decreases-choice : goal.decreases-choice
decreases-choice l = 8 * length l.self.now + 1

abbrev pub decreases-else_part : goal.decreases-else_part
decreases-else_part l = 8 * length l.self.now

abbrev pub decreases-repetition : goal.decreases-repetition
decreases-repetition l = 8 * length l.self.now + 1

abbrev pub decreases-statement : goal.decreases-statement
decreases-statement l = 8 * length l.self.now

abbrev pub decreases-statements : goal.decreases-statements
decreases-statements l = 8 * length l.self.now + 1

abbrev pub invariant-statements-loop-alloc : goal.invariant-statements-loop-alloc
invariant-statements-loop-alloc l = record { reached : ReachedPart (l.room + 1) (as_token l.last) l.initial.self l.block l.self; within : length l.self ≤ length l.initial.self }

abbrev pub decreases-statements-loop-alloc : goal.decreases-statements-loop-alloc
decreases-statements-loop-alloc l = length l.self
