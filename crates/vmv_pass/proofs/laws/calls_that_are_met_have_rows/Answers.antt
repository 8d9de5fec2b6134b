use Rattle.vmv_pass.proofs.Calls.{met_rows}
use Rattle.vmv_pass.proofs.laws.calls_that_are_met_have_rows.Goals as goal

pub returns : goal.returns
returns c = met_rows
