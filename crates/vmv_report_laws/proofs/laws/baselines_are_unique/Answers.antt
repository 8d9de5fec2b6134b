use Rattle.vmv_report_laws.proofs.Reporting.{baseline_once}
use Rattle.vmv_report_laws.proofs.laws.baselines_are_unique.Goals as goal

pub returns : goal.returns
returns c = baseline_once c.least_tables_are_unique.ensures
