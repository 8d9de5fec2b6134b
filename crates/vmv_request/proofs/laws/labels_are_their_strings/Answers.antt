use Rattle.vmv_request.proofs.Labels.{label_string}
use Rattle.vmv_request.proofs.laws.labels_are_their_strings.Goals as goal

pub returns : goal.returns
returns c = label_string
