use Rattle.std.proofs.Common.{◌≡◌, ◌++◌}
use Rattle.std.specs.List.{flat_map}
use Rattle.vmv_proof_text.specs.States.{marked_things}
use Rattle.vmv_proof_text.specs.Text.{variable_word}
use Rattle.vmv_proof_text.proofs.states.push_marks.Given as goal

abbrev pub invariant-loop-i : goal.invariant-loop-i
invariant-loop-i l = l.out.items ≡ l.fn.out.items ++ flat_map variable_word (marked_things l.zone l.i)
