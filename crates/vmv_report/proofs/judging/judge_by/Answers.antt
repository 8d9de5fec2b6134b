use Rattle.std.proofs.Common.{sym, ◌∙◌}
use Rattle.vmv_report.proofs.judging.judge_by.Goals as goal

pub reviewed-requires-clause-needed : goal.reviewed-requires-clause-needed
reviewed-requires-clause-needed g c = λ κs within. (_, sym c.needed.ensures.needed ∙ c.in-Conditions.is)

pub reviewed-requires-clause-shown : goal.reviewed-requires-clause-shown
reviewed-requires-clause-shown g c = λ κs within. c.requires.shown _ _ (sym c.needed.ensures.needed ∙ c.in-Conditions.is)
