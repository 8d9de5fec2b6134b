use Rattle.vmv_run.proofs.OneRun.{one_run}
use Rattle.vmv_run.proofs.laws.one_constant_run.Goals as goal

pub returns : goal.returns
returns c = one_run
