-- Proofs whose texts are short enough to be printed.
use Rattle.std.specs.Prelude.{◌≡◌, ◌≤◌, ◌<◌, length, ⊤}
use Rattle.vmv_snapshot.specs.Resolution.{Resolution}
use Rattle.vmv_proof.specs.declared.proof.Proof.{Proof}
use Rattle.vmv_proof_text.specs.Lengths.{capped}
use Rattle.vmv_proof_text.specs.Text.{proof_text}
use Rattle.vmv_review_proof.specs.declared.stop.ProofStop.{ProofStop}
use Rattle.vmv_review_proof.specs.declared.stop.ProofStop.TheVariants.{TooLarge, Memory}
use Rattle.vmv_review_proof.specs.Proofs.{IsProofOf}

-- its canonical text has at most 67,108,864 bytes
abbrev pub IsWithin : Proof → Type 0
IsWithin proof = length (proof_text proof) ≤ 67108864

-- it has more: so many, or the greatest number of 64 bits where there are more than that; that memory ran out says nothing
abbrev pub IsOver : Proof → ProofStop → Type 0
IsOver proof (TooLarge found) = (67108864 < length (proof_text proof)) × (found ≡ capped (length (proof_text proof)))
IsOver proof Memory = ⊤

-- the proof of the review, which may be printed
abbrev pub IsPrinted : (base revision : Resolution) → Proof → Type 0
IsPrinted base revision proof = IsProofOf base revision proof × IsWithin proof

-- the proof of the review is too long
abbrev pub IsStopped : (base revision : Resolution) → ProofStop → Type 0
IsStopped base revision (TooLarge found) = (proof : Proof) × IsProofOf base revision proof × IsOver proof (TooLarge found)
IsStopped base revision Memory = ⊤
