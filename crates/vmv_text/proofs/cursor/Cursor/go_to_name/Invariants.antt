use Rattle.vmv_text.specs.Mentioned.{Skipped}
use Rattle.vmv_text.proofs.cursor.Cursor.go_to_name.Given as goal

abbrev pub invariant-loop-passed : goal.invariant-loop-passed
invariant-loop-passed l = Skipped l._passed l.initial.self l.self
