use Rattle.vmv_run.proofs.Asked.{safe_for_both}
use Rattle.vmv_run.proofs.laws.outside_names_decide_safety.Goals as goal

pub returns : goal.returns
returns c = safe_for_both
