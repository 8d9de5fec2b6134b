use Rattle.vmv_zone.proofs.Lines.{dropped_done}
use Rattle.vmv_zone.proofs.tables.drop_bounds.Goals as goal

pub returns : goal.returns
returns c = dropped_done c.args.bounds.now c.copy_column.new.bounds c.copy_row.new.bounds c.clear_line.new.bounds _ _ c.requires.last c.requires.to c.requires.outside c.copy_column.ensures c.copy_row.ensures c.clear_line.ensures
