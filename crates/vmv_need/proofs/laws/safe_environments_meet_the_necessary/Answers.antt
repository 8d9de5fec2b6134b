use Rattle.vmv_need.proofs.Existing.{safe_within}
use Rattle.vmv_need.proofs.laws.safe_environments_meet_the_necessary.Goals as goal

pub returns : goal.returns
returns c = λ program scope a env is necessary. safe_within program scope a env is necessary
