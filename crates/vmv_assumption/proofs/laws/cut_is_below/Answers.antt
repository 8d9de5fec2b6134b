use Rattle.vmv_assumption.proofs.Pieces.{cut_below}
use Rattle.vmv_assumption.proofs.laws.cut_is_below.Goals as goal

pub returns : goal.returns
returns c = cut_below
