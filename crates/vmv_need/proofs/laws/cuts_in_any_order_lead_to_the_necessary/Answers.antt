use Rattle.vmv_need.proofs.Lower.{lead_ends_necessary}
use Rattle.vmv_need.proofs.laws.cuts_in_any_order_lead_to_the_necessary.Goals as goal

pub returns : goal.returns
returns c = lead_ends_necessary
