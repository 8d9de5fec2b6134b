use Rattle.vmv_report_laws.proofs.Tightening.{enough_or_none}
use Rattle.vmv_report_laws.proofs.laws.conditions_suffice_or_none_do.Goals as goal

pub returns : goal.returns
returns c = enough_or_none
