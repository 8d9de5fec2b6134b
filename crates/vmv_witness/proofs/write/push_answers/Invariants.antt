use Rattle.std.proofs.Common.{◌≡◌, ◌++◌, drop, map}
use Rattle.vmv_witness.specs.Text.{text_of, answer_lines, answer_pair}
use Rattle.vmv_witness.proofs.write.push_answers.Given as goal

abbrev pub invariant-loop-answer : goal.invariant-loop-answer
invariant-loop-answer l =
    l.out.items ++ text_of (answer_lines (map answer_pair (drop l.answer-index l.answers))) ≡ l.fn.out.items ++ text_of (answer_lines (map answer_pair l.answers))
