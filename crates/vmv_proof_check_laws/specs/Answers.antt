-- What the check of a proof may answer.
use Rattle.std.specs.Prelude.{Result, Ok, Err}
use Rattle.vmv_snapshot.specs.Resolution.{Resolution}
use Rattle.vmv_proof.specs.declared.proof.Proof.{Proof}
use Rattle.vmv_proof_check.specs.declared.claims.Claims.{Claims}
use Rattle.vmv_proof_check.specs.declared.claims.ProofRefused.{ProofRefused}
use Rattle.vmv_proof_check.specs.declared.claims.ProofRefused.TheVariants.{At, Memory}
use Rattle.vmv_proof_check.specs.Proofs.{IsProofAccepted, IsProofRefused}

-- the counts of a proof that is accepted, or where one is refused; that memory ran out is no answer
abbrev pub IsAnswer : (base revision : Resolution) → Proof → Result Claims ProofRefused → Type 0
IsAnswer base revision proof (Ok claims) = IsProofAccepted base revision proof claims
IsAnswer base revision proof (Err (At part row step)) = IsProofRefused base revision proof part row step
IsAnswer base revision proof (Err Memory) = ⊥
