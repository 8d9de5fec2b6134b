use Rattle.std.proofs.Common.{take, IsTrue}
use Rattle.vmv_witness.specs.Reading.{lacks}
use Rattle.vmv_proof_words.proofs.words.word_length.Given as goal

abbrev pub invariant-loop-i : goal.invariant-loop-i
invariant-loop-i l = IsTrue (lacks 32 (take l.i l.bytes))
