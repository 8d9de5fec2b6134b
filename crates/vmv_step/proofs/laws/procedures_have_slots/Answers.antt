use Rattle.vmv_step.proofs.Procedures.{slots_of}
use Rattle.vmv_step.proofs.laws.procedures_have_slots.Goals as goal

pub returns : goal.returns
returns c = slots_of
