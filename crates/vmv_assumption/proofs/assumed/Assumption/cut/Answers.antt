use Rattle.vmv_assumption.proofs.Pieces.{cut_by_set}
use Rattle.vmv_assumption.proofs.assumed.Assumption.cut.Goals as goal

pub returns-clause-conds : goal.returns-clause-conds
returns-clause-conds c = λ t. cut_by_set _ _ _ _ _ _ c.get.ensures c.cut-left.ensures (c.set.ensures.conds t)
