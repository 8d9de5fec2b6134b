use Rattle.std.proofs.Common.{sym, subst, ◌∙◌}
use Rattle.vmv_snapshot.specs.Resolution.{Resolution}
use Rattle.vmv_demands.specs.Ends.{AreEnds}
use Rattle.vmv_report.proofs.judging.judge.Goals as goal

pub reviewed-requires-clause-needed : goal.reviewed-requires-clause-needed
reviewed-requires-clause-needed g c = λ κs within. (_, sym c.needed.ensures.needed ∙ c.in-Conditions.is)

pub reviewed-requires-clause-ends : goal.reviewed-requires-clause-ends
reviewed-requires-clause-ends g c = λ κs within. subst (λ (b : Resolution). AreEnds b c.in_ok-ends-in-Conditions.ends) c.base.ensures.base c.in_ok-ends-in-Conditions.ensures
