use Rattle.std.proofs.Common.{◌≡◌, length}
use Rattle.vmv_proof_text.specs.Parts.{parts_of_exclusion}
use Rattle.vmv_proof_read.proofs.Times.{WentTo}
use Rattle.vmv_proof_read.proofs.proof.read_exclusions.Given as goal

-- so many have been read
abbrev pub invariant-loop : goal.invariant-loop
invariant-loop l = record { many : length l.exclusions ≡ l.counter; went : WentTo parts_of_exclusion l.count l.exclusions l.fn.lines l.lines }
