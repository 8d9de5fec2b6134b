use Rattle.vmv_report_laws.proofs.Classing.{rows_once}
use Rattle.vmv_report_laws.proofs.laws.rows_are_unique.Goals as goal

pub returns : goal.returns
returns c = rows_once
