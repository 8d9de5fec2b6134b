use Rattle.vmv_proof_text.specs.Parts.{parts_of_shown}
use Rattle.vmv_proof_text.proofs.Writing.{push_parts}
use Rattle.vmv_proof_text.proofs.write.push_shown_list.Goals as goal

pub loop-entry-preserved : goal.loop-entry-preserved
loop-entry-preserved c =
    push_parts parts_of_shown c.args.shown.now c.loop-entry.entry-index c.entry-item.result _ _ _ c.loop-entry-test.true c.entry-item.is c.in_ok-push_shown.ensures c.loop-entry.invariant
