use Rattle.std.proofs.Common.{◌≡◌, ◌≤◌, ◌*◌, length}
use Rattle.vmv_proof_text.specs.States.{bounds_of_things}
use Rattle.vmv_proof_text.proofs.bounds.count_bounds.Given as goal

abbrev pub invariant-loop-i : goal.invariant-loop-i
invariant-loop-i l = (l.count ≡ length (bounds_of_things l.zone l.i)) × (l.count ≤ 18 * l.i)
