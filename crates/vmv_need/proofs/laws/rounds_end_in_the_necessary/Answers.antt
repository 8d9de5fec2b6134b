use Rattle.vmv_need.proofs.Turns.{cuts_end_necessary}
use Rattle.vmv_need.proofs.laws.rounds_end_in_the_necessary.Goals as goal

pub returns : goal.returns
returns c = cuts_end_necessary
