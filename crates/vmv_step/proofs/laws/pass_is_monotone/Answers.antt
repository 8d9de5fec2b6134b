use Rattle.vmv_step.proofs.Arguments.{pass_mono}
use Rattle.vmv_step.proofs.laws.pass_is_monotone.Goals as goal

pub returns : goal.returns
returns c = pass_mono
