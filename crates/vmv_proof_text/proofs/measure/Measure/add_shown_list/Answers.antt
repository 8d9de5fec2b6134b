use Rattle.vmv_proof_text.specs.Parts.{parts_of_shown}
use Rattle.vmv_proof_text.proofs.Measuring.{add_parts, add_end}
use Rattle.vmv_proof_text.proofs.measure.Measure.add_shown_list.Goals as goal

pub loop-entry-preserved : goal.loop-entry-preserved
loop-entry-preserved c = (
  c.in_ok-add_shown.ensures.0,
  add_parts parts_of_shown c.args.shown.now c.loop-entry.entry-index c.entry-item.result c.loop-entry.self.total c.add_shown.new.self.total _ c.loop-entry-test.true c.entry-item.is c.in_ok-add_shown.ensures.1 c.loop-entry.invariant.1,
)

pub returns : goal.returns
returns c = (c.loop-entry.invariant.0, add_end parts_of_shown c.args.shown.now c.loop-entry.entry-index c.loop-entry.self.total _ c.loop-entry-test.false c.loop-entry.invariant.1)
