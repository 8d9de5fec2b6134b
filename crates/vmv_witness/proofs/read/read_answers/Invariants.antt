use Rattle.std.proofs.Common.{length, map}
use Rattle.std.specs.Prelude.{codes}
use Rattle.vmv_witness.specs.Text.{answer_pair}
use Rattle.vmv_witness.specs.Reading.{TakesPairs}
use Rattle.vmv_witness.proofs.read.read_answers.Given as goal

abbrev pub invariant-loop-name : goal.invariant-loop-name
invariant-loop-name l = TakesPairs (codes "answer ") l.fn.lines (map answer_pair l.answers) l.lines

abbrev pub decreases-loop-name : goal.decreases-loop-name
decreases-loop-name l = length l.lines
