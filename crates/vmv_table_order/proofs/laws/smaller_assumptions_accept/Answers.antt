use Rattle.vmv_table_order.proofs.RowsExist.{some_accepted}
use Rattle.vmv_table_order.proofs.laws.smaller_assumptions_accept.Goals as goal

pub returns : goal.returns
returns c = some_accepted
