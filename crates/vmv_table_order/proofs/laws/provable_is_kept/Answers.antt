use Rattle.vmv_table_order.proofs.RowsExist.{some_provable}
use Rattle.vmv_table_order.proofs.laws.provable_is_kept.Goals as goal

pub returns : goal.returns
returns c = some_provable
