use Rattle.vmv_table_order.proofs.RowsExist.{some_row}
use Rattle.vmv_table_order.proofs.laws.each_walk_ends_some_way.Goals as goal

pub returns : goal.returns
returns c = some_row
