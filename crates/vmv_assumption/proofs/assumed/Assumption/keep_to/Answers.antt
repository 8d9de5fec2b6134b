use Rattle.vmv_assumption.proofs.Pieces.{kept_by_set}
use Rattle.vmv_assumption.proofs.assumed.Assumption.keep_to.Goals as goal

pub returns-clause-conds : goal.returns-clause-conds
returns-clause-conds c = λ t. kept_by_set _ _ _ _ _ _ c.get.ensures c.within-kept.ensures (c.set.ensures.conds t)
