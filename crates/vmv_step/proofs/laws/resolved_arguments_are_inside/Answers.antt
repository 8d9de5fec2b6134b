use Rattle.vmv_step.proofs.Arguments.{args_inside}
use Rattle.vmv_step.proofs.laws.resolved_arguments_are_inside.Goals as goal

pub returns : goal.returns
returns c = args_inside
