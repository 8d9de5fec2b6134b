use Rattle.vmv_assumption.proofs.Pieces.{kept_ordered}
use Rattle.vmv_assumption.proofs.laws.kept_is_monotone.Goals as goal

pub returns : goal.returns
returns c = kept_ordered
