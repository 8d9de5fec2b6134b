use Rattle.vmv_report_json.proofs.Naming.{name_string}
use Rattle.vmv_report_json.proofs.laws.names_are_their_strings.Goals as goal

pub returns : goal.returns
returns c = name_string
