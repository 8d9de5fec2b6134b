use Rattle.vmv_pass.proofs.Ranks.{rank_few}
use Rattle.vmv_pass.proofs.laws.ranks_are_few.Goals as goal

pub returns : goal.returns
returns c = rank_few
