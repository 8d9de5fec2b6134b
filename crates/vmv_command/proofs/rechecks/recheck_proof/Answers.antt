use Rattle.vmv_command.proofs.Rechecking.{small_of}
use Rattle.vmv_command.proofs.rechecks.recheck_proof.Goals as goal

pub recheck_programs-requires : goal.recheck_programs-requires
recheck_programs-requires c = small_of c.in-Ok.proof c.in-Ok.ensures.few
