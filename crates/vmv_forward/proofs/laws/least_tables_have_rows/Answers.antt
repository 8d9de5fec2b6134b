use Rattle.vmv_forward.proofs.FirstRows.{has_rows}
use Rattle.vmv_forward.proofs.laws.least_tables_have_rows.Goals as goal

pub returns : goal.returns
returns c = has_rows
