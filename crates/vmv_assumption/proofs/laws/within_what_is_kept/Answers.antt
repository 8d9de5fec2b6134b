use Rattle.vmv_assumption.proofs.Pieces.{within_kept}
use Rattle.vmv_assumption.proofs.laws.within_what_is_kept.Goals as goal

pub returns : goal.returns
returns c = within_kept
