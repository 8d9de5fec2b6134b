use Rattle.std.proofs.Common.{length}
use Rattle.vmv_text.specs.Mentioned.{Skipped}
use Rattle.vmv_text.proofs.cursor.Cursor.go_to_next.Given as goal

abbrev pub invariant-loop-token : goal.invariant-loop-token
invariant-loop-token l = Skipped 0 l.initial.self l.self

abbrev pub decreases-loop-token : goal.decreases-loop-token
decreases-loop-token l = length l.self
