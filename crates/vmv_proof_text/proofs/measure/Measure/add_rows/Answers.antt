use Rattle.vmv_proof_text.specs.Parts.{parts_of_row}
use Rattle.vmv_proof_text.proofs.Measuring.{add_parts, add_end}
use Rattle.vmv_proof_text.proofs.measure.Measure.add_rows.Goals as goal

pub loop-row-preserved : goal.loop-row-preserved
loop-row-preserved c = (
  c.in_ok-add_row.ensures.0,
  add_parts parts_of_row c.args.rows.now c.loop-row.row-index c.row-item.result c.loop-row.self.total c.add_row.new.self.total _ c.loop-row-test.true c.row-item.is c.in_ok-add_row.ensures.1 c.loop-row.invariant.1,
)

pub returns : goal.returns
returns c = (c.loop-row.invariant.0, add_end parts_of_row c.args.rows.now c.loop-row.row-index c.loop-row.self.total _ c.loop-row-test.false c.loop-row.invariant.1)
