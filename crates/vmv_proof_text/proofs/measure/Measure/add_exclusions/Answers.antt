use Rattle.vmv_proof_text.specs.Parts.{parts_of_exclusion}
use Rattle.vmv_proof_text.proofs.Measuring.{add_parts, add_end}
use Rattle.vmv_proof_text.proofs.measure.Measure.add_exclusions.Goals as goal

pub loop-exclusion-preserved : goal.loop-exclusion-preserved
loop-exclusion-preserved c = (
  c.in_ok-add_exclusion.ensures.0,
  add_parts parts_of_exclusion c.args.exclusions.now c.loop-exclusion.exclusion-index c.exclusion-item.result c.loop-exclusion.self.total c.add_exclusion.new.self.total _ c.loop-exclusion-test.true c.exclusion-item.is c.in_ok-add_exclusion.ensures.1 c.loop-exclusion.invariant.1,
)

pub returns : goal.returns
returns c = (c.loop-exclusion.invariant.0, add_end parts_of_exclusion c.args.exclusions.now c.loop-exclusion.exclusion-index c.loop-exclusion.self.total _ c.loop-exclusion-test.false c.loop-exclusion.invariant.1)
