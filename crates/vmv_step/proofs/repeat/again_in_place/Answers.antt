use Rattle.vmv_zone.proofs.MoreLaws.{assign_normal}
use Rattle.vmv_step.proofs.repeat.again_in_place.Goals as goal

pub returns-clause-normal : goal.returns-clause-normal
returns-clause-normal c = assign_normal _ _ _ _ c.requires.index.0 c.store.ensures
