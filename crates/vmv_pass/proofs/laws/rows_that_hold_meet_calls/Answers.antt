use Rattle.vmv_pass.proofs.Calls.{row_calls}
use Rattle.vmv_pass.proofs.laws.rows_that_hold_meet_calls.Goals as goal

pub returns : goal.returns
returns c = row_calls
