use Rattle.vmv_need.proofs.First.{all_entries}
use Rattle.vmv_need.proofs.gather.scope_of.Goals as goal

pub returns : goal.returns
returns g c = record { scope = all_entries _ _ c.in_ok-ends.ensures c.in_ok-subjects.ensures.first; few = c.in_ok-subjects.ensures.few }
