use Rattle.vmv_need.proofs.Once.{cuts_once}
use Rattle.vmv_need.proofs.laws.rounds_record_one_list.Goals as goal

pub returns : goal.returns
returns c = cuts_once
