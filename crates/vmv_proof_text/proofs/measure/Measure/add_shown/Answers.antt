use Rattle.vmv_proof_text.proofs.Measuring.{shown_added}
use Rattle.vmv_proof_text.proofs.measure.Measure.add_shown.Goals as goal

pub returns : goal.returns
returns c = (
  c.in_ok-add_table-2.ensures.0,
  shown_added c.args.shown.now c.args.self.now.lines.items c.push_plain.new.out.items c.add_table.new.self.lines.items c.push_given.new.out.items c.args.self.now.total c.add_table.new.self.total c.add_table-2.new.self.total c.requires c.in_ok-push_plain.ensures c.in_ok-add_table.ensures.1 c.in_ok-add_table.ensures.0 c.in_ok-push_given.ensures c.in_ok-add_table-2.ensures.1,
)
