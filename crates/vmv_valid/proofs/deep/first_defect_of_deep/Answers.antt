use Rattle.vmv_valid.proofs.PlacedItems.{walked_first}
use Rattle.vmv_valid.proofs.deep.first_defect_of_deep.Goals as goal

pub returns-in-Err-Found : goal.returns-in-Err-Found
returns-in-Err-Found c =
    λ program h. walked_first c.args.told.now.counts program c.in-Err-Found.found h.counts (rw c.in-Err-Found.field-0-is at (c.in-Err-Found.ensures.walked program h))
