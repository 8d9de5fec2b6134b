use Rattle.vmv_table_order.proofs.Rows.{still_accepted}
use Rattle.vmv_table_order.proofs.laws.accepted_tables_stay_accepted.Goals as goal

pub returns : goal.returns
returns c = still_accepted
