use Rattle.vmv_run.proofs.OneRun.{short_run}
use Rattle.vmv_run.proofs.laws.runs_are_short.Goals as goal

pub returns : goal.returns
returns c = short_run
