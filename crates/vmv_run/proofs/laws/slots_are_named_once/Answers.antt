use Rattle.vmv_run.proofs.Places.{helper_slots, entry_slots}
use Rattle.vmv_run.proofs.laws.slots_are_named_once.Goals as goal

pub returns : goal.returns
returns c = record { helpers = helper_slots; entries = entry_slots }
