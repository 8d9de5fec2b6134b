use Rattle.std.proofs.Common.{length}
use Rattle.vmv_text.proofs.Items.{Listed}
use Rattle.vmv_text.proofs.cursor.Cursor.items.Given as goal

abbrev pub invariant-loop-alloc : goal.invariant-loop-alloc
invariant-loop-alloc l = Listed l.initial.self l.items l.counts l.self

abbrev pub decreases-loop-alloc : goal.decreases-loop-alloc
decreases-loop-alloc l = length l.self
