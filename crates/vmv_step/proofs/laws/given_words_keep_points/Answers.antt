use Rattle.vmv_step.proofs.StepPoints.{given_follows}
use Rattle.vmv_step.proofs.laws.given_words_keep_points.Goals as goal

pub returns : goal.returns
returns c = given_follows
