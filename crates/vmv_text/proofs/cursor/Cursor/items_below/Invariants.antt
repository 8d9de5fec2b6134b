use Rattle.std.proofs.Common.{length}
use Rattle.vmv_text.proofs.Items.{Below}
use Rattle.vmv_text.proofs.cursor.Cursor.items_below.Given as goal

abbrev pub invariant-loop-alloc : goal.invariant-loop-alloc
invariant-loop-alloc l = Below l.initial.self l.fn.counts l.all l.self

abbrev pub decreases-loop-alloc : goal.decreases-loop-alloc
decreases-loop-alloc l = length l.self
