use Rattle.vmv_run.proofs.OneRun.{determined}
use Rattle.vmv_run.proofs.laws.answers_determine_a_run.Goals as goal

pub returns : goal.returns
returns c = determined
