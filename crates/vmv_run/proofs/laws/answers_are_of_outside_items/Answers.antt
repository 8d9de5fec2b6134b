use Rattle.vmv_run.proofs.Asked.{run_asks}
use Rattle.vmv_run.proofs.laws.answers_are_of_outside_items.Goals as goal

pub returns : goal.returns
returns c = run_asks
