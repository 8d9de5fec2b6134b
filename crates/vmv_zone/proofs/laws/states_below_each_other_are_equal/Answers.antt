use Rattle.vmv_zone.proofs.Equal.{below_both}
use Rattle.vmv_zone.proofs.laws.states_below_each_other_are_equal.Goals as goal

pub returns : goal.returns
returns c = below_both
