use Rattle.vmv_table_order.proofs.RowsExist.{some_dead}
use Rattle.vmv_table_order.proofs.laws.dead_is_kept.Goals as goal

pub returns : goal.returns
returns c = some_dead
