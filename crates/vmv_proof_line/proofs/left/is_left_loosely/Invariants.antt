use Rattle.std.proofs.Common.{◌≡◌, List, length}
use Rattle.vmv_proof_text.specs.Loose.{SpelledSite}
use Rattle.vmv_proof_line.specs.SiteWords.{spelled_word, IsSpelled}
use Rattle.vmv_proof_line.proofs.SiteWords.{AreRead}
use Rattle.vmv_proof_line.proofs.left.is_left_loosely.Given as goal

abbrev pub invariant-loop-words : goal.invariant-loop-words
invariant-loop-words l = (read : List SpelledSite) × AreRead IsSpelled spelled_word l.line l.count read l.words × (length read ≡ l.found)

abbrev pub decreases-loop-words : goal.decreases-loop-words
decreases-loop-words l = length l.words
