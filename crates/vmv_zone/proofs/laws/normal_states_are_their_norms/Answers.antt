use Rattle.vmv_zone.proofs.MoreLaws.{norm_same}
use Rattle.vmv_zone.proofs.laws.normal_states_are_their_norms.Goals as goal

pub returns : goal.returns
returns c = norm_same
