use Rattle.std.proofs.Common.{◌≡◌, ◌≤◌, length}
use Rattle.vmv_proof_text.specs.States.{marked_things}
use Rattle.vmv_proof_text.proofs.bounds.count_marks.Given as goal

abbrev pub invariant-loop-i : goal.invariant-loop-i
invariant-loop-i l = (l.count ≡ length (marked_things l.zone l.i)) × (l.count ≤ l.i)
