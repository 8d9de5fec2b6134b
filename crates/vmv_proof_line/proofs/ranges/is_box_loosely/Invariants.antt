use Rattle.std.proofs.Common.{◌≡◌, List, length}
use Rattle.vmv_proof_words.specs.Words.{Word}
use Rattle.vmv_proof_line.specs.Shapes.{AreNumbers}
use Rattle.vmv_proof_line.proofs.Boxes.{ArePairsRead, itself}
use Rattle.vmv_proof_line.proofs.ranges.is_box_loosely.Given as goal

abbrev pub invariant-loop-words : goal.invariant-loop-words
invariant-loop-words l = (read : List (Word × Word)) × ArePairsRead AreNumbers itself l.line read l.words × (length read ≡ l.count)

abbrev pub decreases-loop-words : goal.decreases-loop-words
decreases-loop-words l = length l.words
