use Rattle.vmv_report.proofs.Regressing.{text_regressing}
use Rattle.vmv_report.proofs.laws.regressing_reports_show_it.Goals as goal

pub returns : goal.returns
returns c = text_regressing c.proved_programs_are_safe.ensures c.answers_are_of_outside_items.ensures
