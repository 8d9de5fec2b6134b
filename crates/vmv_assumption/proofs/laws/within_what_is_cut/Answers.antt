use Rattle.vmv_assumption.proofs.Pieces.{within_cut}
use Rattle.vmv_assumption.proofs.laws.within_what_is_cut.Goals as goal

pub returns : goal.returns
returns c = within_cut
