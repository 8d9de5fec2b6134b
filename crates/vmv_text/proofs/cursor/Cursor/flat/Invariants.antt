use Rattle.std.proofs.Common.{◌≤◌, length}
use Rattle.vmv_text.proofs.OpenBlocks.{Counted}
use Rattle.vmv_text.proofs.cursor.Cursor.flat.Given as goal

abbrev pub invariant-loop-blocks : goal.invariant-loop-blocks
invariant-loop-blocks l = record { counted : Counted l.initial.self l.blocks.items l.sizes l.self; within : length l.self ≤ length l.initial.self }

abbrev pub decreases-loop-blocks : goal.decreases-loop-blocks
decreases-loop-blocks l = length l.self
