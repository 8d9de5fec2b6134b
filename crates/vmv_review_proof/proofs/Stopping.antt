-- The proof of a review that is too long.
use Rattle.std.proofs.Common.{◌≡◌, Result, Ok, Err, IsErr, IsErrAnd, IfErr, sym, subst}
use Rattle.vmv_snapshot.specs.Resolution.{Resolution}
use Rattle.vmv_proof.specs.declared.proof.Proof.{Proof}
use Rattle.vmv_review_proof.specs.declared.stop.ProofStop.{ProofStop}
use Rattle.vmv_review_proof.specs.declared.stop.ProofStop.TheVariants.{TooLarge, Memory}
use Rattle.vmv_review_proof.specs.Proofs.{IsProofOf}
use Rattle.vmv_review_proof.specs.Limit.{IsOver, IsStopped}

stopped : (base revision : Resolution) (proof : Proof) → IsProofOf base revision proof → (stop : ProofStop) → IsOver proof stop → IsStopped base revision stop
stopped base revision proof of (TooLarge found) over = (proof, of, over)
stopped base revision proof of Memory over = tt

-- what stops the proof is handed on
pub handed_on : (base revision : Resolution) (proof : Proof) → IsProofOf base revision proof → (stop : ProofStop) → IsOver proof stop →
    (r : Result Proof ProofStop) → IsErr r → IsErrAnd r (λ n. n ≡ stop) → IfErr r (IsStopped base revision)
handed_on base revision proof of stop over (Ok other) is same = tt
handed_on base revision proof of stop over (Err n) is same = subst (IsStopped base revision) (sym same) (stopped base revision proof of stop over)
