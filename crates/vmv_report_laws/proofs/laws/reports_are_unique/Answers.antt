use Rattle.vmv_report_laws.proofs.Reporting.{report_once}
use Rattle.vmv_report_laws.proofs.laws.reports_are_unique.Goals as goal

pub returns : goal.returns
returns c = report_once c.least_tables_are_unique.ensures
