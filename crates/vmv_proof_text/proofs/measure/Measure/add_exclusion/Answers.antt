use Rattle.vmv_proof_text.proofs.Measuring.{exclusion_added}
use Rattle.vmv_proof_text.proofs.measure.Measure.add_exclusion.Goals as goal

pub returns : goal.returns
returns c = (
  c.in_ok-add_table.ensures.0,
  exclusion_added c.args.exclusion.now c.args.self.now.lines.items c.push_exclude.new.out.items c.push_box.new.out.items c.args.self.now.total c.add_table.new.self.total c.requires c.in_ok-push_exclude.ensures c.in_ok-push_box.ensures c.in_ok-add_table.ensures.1,
)
