use Rattle.vmv_run.proofs.OneReplay.{one_replay}
use Rattle.vmv_run.proofs.laws.one_finding.Goals as goal

pub returns : goal.returns
returns c = one_replay
