use Rattle.std.proofs.Common.{◌≡◌, length}
use Rattle.vmv_proof_text.specs.Parts.{parts_of_shown}
use Rattle.vmv_proof_read.proofs.Times.{WentTo}
use Rattle.vmv_proof_read.proofs.proof.read_shown_list.Given as goal

-- so many have been read
abbrev pub invariant-loop : goal.invariant-loop
invariant-loop l = record { many : length l.list ≡ l.counter; went : WentTo parts_of_shown l.count l.list l.fn.lines l.lines }
