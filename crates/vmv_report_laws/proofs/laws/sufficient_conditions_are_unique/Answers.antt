use Rattle.vmv_report_laws.proofs.Tightening.{enough_once}
use Rattle.vmv_report_laws.proofs.laws.sufficient_conditions_are_unique.Goals as goal

pub returns : goal.returns
returns c = enough_once
