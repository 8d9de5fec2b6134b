use Rattle.vmv_report.proofs.Saying.{says_correct}
use Rattle.vmv_report.proofs.laws.only_correct_reports_say_so.Goals as goal

pub returns : goal.returns
returns c = says_correct
