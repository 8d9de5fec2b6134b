use Rattle.vmv_run.proofs.OneReplay.{procs_once}
use Rattle.vmv_run.proofs.laws.procedures_are_named_once.Goals as goal

pub returns : goal.returns
returns c = procs_once
