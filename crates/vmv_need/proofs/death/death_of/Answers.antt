use Rattle.vmv_need.proofs.Deaths.{thresholds_found}
use Rattle.vmv_need.proofs.death.death_of.Goals as goal

pub death-requires-clause-thresholds : goal.death-requires-clause-thresholds
death-requires-clause-thresholds c = (_, thresholds_found _ _ _ _ _ _ _ c.requires.plan.thresholds c.requires.entry c.index.ensures c.in-Some.is)

pub returns-clause-dead : goal.returns-clause-dead
returns-clause-dead c = c.in_ok-found.ensures.dead _ (thresholds_found _ _ _ _ _ _ _ c.requires.plan.thresholds c.requires.entry c.index.ensures c.in-Some.is)

pub returns-clause-table : goal.returns-clause-table
returns-clause-table c = c.in_ok-found.ensures.least _ (thresholds_found _ _ _ _ _ _ _ c.requires.plan.thresholds c.requires.entry c.index.ensures c.in-Some.is)
