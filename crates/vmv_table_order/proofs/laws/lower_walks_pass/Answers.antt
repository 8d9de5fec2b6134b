use Rattle.vmv_table_order.proofs.Rows.{walk_lower}
use Rattle.vmv_table_order.proofs.laws.lower_walks_pass.Goals as goal

pub returns : goal.returns
returns c = walk_lower
