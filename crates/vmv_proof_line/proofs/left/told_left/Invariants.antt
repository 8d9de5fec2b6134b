use Rattle.std.proofs.Common.{length}
use Rattle.vmv_proof_text.specs.Lines.{IsSite}
use Rattle.vmv_proof_line.specs.SiteWords.{shown_site}
use Rattle.vmv_proof_line.proofs.SiteWords.{AreRead}
use Rattle.vmv_proof_line.proofs.left.told_left.Given as goal

abbrev pub invariant-loop-words : goal.invariant-loop-words
invariant-loop-words l = AreRead IsSite shown_site l.line l.count l.sites l.words

abbrev pub decreases-loop-words : goal.decreases-loop-words
decreases-loop-words l = length l.words
