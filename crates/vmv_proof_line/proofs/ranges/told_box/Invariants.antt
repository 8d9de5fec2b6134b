use Rattle.std.proofs.Common.{length}
use Rattle.vmv_proof_text.specs.Lines.{IsRange}
use Rattle.vmv_proof_line.proofs.Boxes.{ArePairsRead, ends}
use Rattle.vmv_proof_line.proofs.ranges.told_box.Given as goal

abbrev pub invariant-loop-words : goal.invariant-loop-words
invariant-loop-words l = ArePairsRead IsRange ends l.line l.ranges l.words

abbrev pub decreases-loop-words : goal.decreases-loop-words
decreases-loop-words l = length l.words
