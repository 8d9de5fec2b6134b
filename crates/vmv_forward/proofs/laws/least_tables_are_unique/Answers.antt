use Rattle.vmv_forward.proofs.Unique.{are_unique}
use Rattle.vmv_forward.proofs.laws.least_tables_are_unique.Goals as goal

pub returns : goal.returns
returns c = are_unique
