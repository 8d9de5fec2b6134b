use Rattle.vmv_assumption.proofs.Pieces.{kept_below}
use Rattle.vmv_assumption.proofs.laws.kept_is_below.Goals as goal

pub returns : goal.returns
returns c = kept_below
