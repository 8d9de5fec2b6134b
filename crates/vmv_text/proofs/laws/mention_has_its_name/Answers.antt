use Rattle.vmv_text.proofs.Naming.{named_there}
use Rattle.vmv_text.proofs.laws.mention_has_its_name.Goals as goal

pub returns : goal.returns
returns c = named_there
