use Rattle.vmv_report_laws.proofs.Classing.{row_class_once}
use Rattle.vmv_report_laws.proofs.laws.a_row_has_one_class.Goals as goal

pub returns : goal.returns
returns c = row_class_once
