use Rattle.std.proofs.Common.{take, IsTrue}
use Rattle.vmv_witness.specs.Reading.{lacks}
use Rattle.vmv_proof_line.proofs.halves.split_at_first.Given as goal

abbrev pub invariant-loop-i : goal.invariant-loop-i
invariant-loop-i l = IsTrue (lacks l.byte (take l.i l.bytes))
