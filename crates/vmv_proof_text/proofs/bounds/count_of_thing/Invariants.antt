use Rattle.std.proofs.Common.{◌≡◌, ◌≤◌, length}
use Rattle.vmv_proof_text.specs.States.{bounds_of_thing}
use Rattle.vmv_proof_text.proofs.bounds.count_of_thing.Given as goal

abbrev pub invariant-loop-j : goal.invariant-loop-j
invariant-loop-j l = (l.count ≡ length (bounds_of_thing l.zone l.i l.j)) × (l.count ≤ l.j)
