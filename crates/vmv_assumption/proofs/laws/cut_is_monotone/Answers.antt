use Rattle.vmv_assumption.proofs.Pieces.{cut_ordered}
use Rattle.vmv_assumption.proofs.laws.cut_is_monotone.Goals as goal

pub returns : goal.returns
returns c = cut_ordered
