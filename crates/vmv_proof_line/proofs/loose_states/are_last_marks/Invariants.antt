use Rattle.std.proofs.Common.{List, []}
use Rattle.vmv_proof_text.specs.Loose.{Digits}
use Rattle.vmv_proof_line.specs.LooseWords.{NextMark, spelled_mark}
use Rattle.vmv_proof_line.proofs.Climbing.{AreRead}
use Rattle.vmv_proof_line.proofs.loose_states.are_last_marks.Given as goal

abbrev pub invariant-loop : goal.invariant-loop
invariant-loop l = (read : List Digits) × AreRead NextMark (λ m. m) spelled_mark [] l.initial.words l.counter l.words l.last read
