use Rattle.std.proofs.Common.{◌≡◌, length}
use Rattle.vmv_proof_text.specs.Parts.{parts_of_row}
use Rattle.vmv_proof_read.proofs.Times.{WentTo}
use Rattle.vmv_proof_read.proofs.tables.read_rows.Given as goal

-- so many have been read
abbrev pub invariant-loop : goal.invariant-loop
invariant-loop l = record { many : length l.rows ≡ l.counter; went : WentTo parts_of_row l.count l.rows l.fn.lines l.lines }
