use Rattle.vmv_proof_text.specs.Parts.{parts_of_exclusion}
use Rattle.vmv_proof_text.proofs.Writing.{push_parts}
use Rattle.vmv_proof_text.proofs.write.push_exclusions.Goals as goal

pub loop-exclusion-preserved : goal.loop-exclusion-preserved
loop-exclusion-preserved c =
    push_parts parts_of_exclusion c.args.exclusions.now c.loop-exclusion.exclusion-index c.exclusion-item.result _ _ _ c.loop-exclusion-test.true c.exclusion-item.is c.in_ok-push_exclusion.ensures c.loop-exclusion.invariant
