use Rattle.std.proofs.Common.{◌≡◌, ◌++◌}
use Rattle.std.specs.List.{flat_map}
use Rattle.vmv_proof_text.specs.States.{bounds_of_things}
use Rattle.vmv_proof_text.specs.Text.{bound_words}
use Rattle.vmv_proof_text.proofs.states.push_bounds.Given as goal

abbrev pub invariant-loop-i : goal.invariant-loop-i
invariant-loop-i l = l.out.items ≡ l.fn.out.items ++ flat_map bound_words (bounds_of_things l.zone l.i)
