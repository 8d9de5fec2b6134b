use Rattle.vmv_report_laws.proofs.Reporting.{text_once}
use Rattle.vmv_report_laws.proofs.laws.report_texts_are_unique.Goals as goal

pub returns : goal.returns
returns c = text_once c.least_tables_are_unique.ensures
