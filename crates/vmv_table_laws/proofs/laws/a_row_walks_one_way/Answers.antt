use Rattle.vmv_table_laws.proofs.Rows.{row_once}
use Rattle.vmv_table_laws.proofs.laws.a_row_walks_one_way.Goals as goal

pub returns : goal.returns
returns c = row_once
