use Rattle.vmv_request.proofs.Labels.{text_string}
use Rattle.vmv_request.proofs.laws.texts_are_their_strings.Goals as goal

pub returns : goal.returns
returns c = text_string
