use Rattle.std.proofs.Common.{◌≡◌, length}
use Rattle.vmv_proof_read.specs.Reading.{only}
use Rattle.vmv_proof_text.specs.Parts.{keep_part}
use Rattle.vmv_proof_read.proofs.Times.{WentTo}
use Rattle.vmv_proof_read.proofs.tables.read_keeps.Given as goal

-- so many have been read
abbrev pub invariant-loop : goal.invariant-loop
invariant-loop l = record { many : length l.keeps ≡ l.counter; went : WentTo (only keep_part) l.count l.keeps l.fn.lines l.lines }
