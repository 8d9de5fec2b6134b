-- The gate is a judge.
use Rattle.vmv_gate.proofs.laws.histories_are_correct.Goals as goal

pub returns-clause-well : goal.returns-clause-well
returns-clause-well g c = c.histories_need_no_premise.ensures.well

pub returns-clause-correct : goal.returns-clause-correct
returns-clause-correct g c = c.histories_need_no_premise.ensures.chains

pub returns-clause-needed : goal.returns-clause-needed
returns-clause-needed g c new commands replies runs =
    c.needs_hold_since_the_root.ensures new (c.histories_need_no_premise.ensures.well new commands replies runs)
