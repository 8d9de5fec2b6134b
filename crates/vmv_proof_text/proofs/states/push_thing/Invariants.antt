use Rattle.std.proofs.Common.{◌≡◌, ◌++◌}
use Rattle.std.specs.List.{flat_map}
use Rattle.vmv_proof_text.specs.States.{bounds_of_thing}
use Rattle.vmv_proof_text.specs.Text.{bound_words}
use Rattle.vmv_proof_text.proofs.states.push_thing.Given as goal

abbrev pub invariant-loop-j : goal.invariant-loop-j
invariant-loop-j l = l.out.items ≡ l.fn.out.items ++ flat_map bound_words (bounds_of_thing l.zone l.i l.j)
