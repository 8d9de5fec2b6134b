use Rattle.vmv_table_order.proofs.Rows.{never_refused}
use Rattle.vmv_table_order.proofs.laws.accepted_tables_are_never_refused.Goals as goal

pub returns : goal.returns
returns c = never_refused
