use Rattle.vmv_step.proofs.Asking.{outside_calls}
use Rattle.vmv_step.proofs.laws.outside_calls_answer_words.Goals as goal

pub returns : goal.returns
returns c = outside_calls
