use Rattle.vmv_report_json.proofs.Spelling.{witness_string}
use Rattle.vmv_report_json.proofs.laws.witnesses_are_their_texts.Goals as goal

pub returns : goal.returns
returns c = witness_string
