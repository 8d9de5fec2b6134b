use Rattle.vmv_proof_text.specs.Parts.{parts_of_row}
use Rattle.vmv_proof_text.proofs.Measuring.{table_added, adds_list}
use Rattle.vmv_proof_text.proofs.measure.Measure.add_table.Goals as goal

pub returns : goal.returns
returns c = (
  c.in_ok-add_rows.ensures.0,
  table_added c.args.table.now c.len.result c.args.self.now.lines.items c.push_table_heading.new.out.items c.args.self.now.total c.add.new.self.total c.add_rows.new.self.total c.len.ensures c.in_ok-push_table_heading.ensures c.add.ensures.total (adds_list parts_of_row _ _ c.add.new.self.total c.add_rows.new.self.total c.as_slice.ensures c.in_ok-add_rows.ensures.1),
)
