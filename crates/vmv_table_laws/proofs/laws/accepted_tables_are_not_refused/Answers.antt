use Rattle.vmv_table_laws.proofs.Rows.{accepted_apart}
use Rattle.vmv_table_laws.proofs.laws.accepted_tables_are_not_refused.Goals as goal

pub returns : goal.returns
returns c = accepted_apart
