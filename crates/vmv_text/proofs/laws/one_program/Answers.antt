use Rattle.vmv_text.proofs.OneTree.{text_once}
use Rattle.vmv_text.proofs.laws.one_program.Goals as goal

pub returns : goal.returns
returns c = text_once
