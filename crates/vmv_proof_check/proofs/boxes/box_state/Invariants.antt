use Rattle.vmv_proof_check.proofs.Boxing.{Boxing}
use Rattle.vmv_proof_check.proofs.boxes.box_state.Given as goal

abbrev pub invariant-loop-i : goal.invariant-loop-i
invariant-loop-i l = Boxing l.within l.i l.zone
