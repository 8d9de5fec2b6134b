use Rattle.vmv_proof_text.specs.Parts.{parts_of_row}
use Rattle.vmv_proof_text.proofs.Writing.{push_parts}
use Rattle.vmv_proof_text.proofs.tables.push_rows.Goals as goal

pub loop-row-preserved : goal.loop-row-preserved
loop-row-preserved c =
    push_parts parts_of_row c.args.rows.now c.loop-row.row-index c.row-item.result _ _ _ c.loop-row-test.true c.row-item.is c.in_ok-push_row.ensures c.loop-row.invariant
