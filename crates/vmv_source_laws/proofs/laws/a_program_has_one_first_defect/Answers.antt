use Rattle.vmv_source_laws.proofs.Limits.{first_once}
use Rattle.vmv_source_laws.proofs.laws.a_program_has_one_first_defect.Goals as goal

pub returns : goal.returns
returns c = first_once
