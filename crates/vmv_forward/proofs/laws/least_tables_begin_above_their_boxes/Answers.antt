use Rattle.vmv_forward.proofs.FirstRows.{first_above}
use Rattle.vmv_forward.proofs.laws.least_tables_begin_above_their_boxes.Goals as goal

pub returns : goal.returns
returns c = first_above
