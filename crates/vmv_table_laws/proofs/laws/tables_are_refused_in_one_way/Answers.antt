use Rattle.vmv_table_laws.proofs.Rows.{refused_once}
use Rattle.vmv_table_laws.proofs.laws.tables_are_refused_in_one_way.Goals as goal

pub returns : goal.returns
returns c = refused_once
