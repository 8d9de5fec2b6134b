-- A step keeps rows well.
use Rattle.vmv_desk_rules.specs.Causes.{Meaning}
use Rattle.vmv_desk_rules.specs.Step.{Step}
use Rattle.vmv_desk_rules.specs.Well.{Well}
use Rattle.vmv_desk_rules.proofs.WellLemmas.{Well-step}
use Rattle.vmv_desk_rules.proofs.HeardLemmas.{by_two}
use Rattle.vmv_desk_rules.proofs.laws.steps_keep_rows_well.Goals as goal

pub returns : goal.returns
returns g c tables new command reply well step =
    let judge = c.args._judge.now in
    let I = g.J.Judge.inspected judge in
    let C = g.J.Judge.compared judge in
    by_two I C (λ M. Well M tables) (λ M. Step M tables command new reply) (λ M. Well M new) (λ M utf8 w s. Well-step M tables new command reply utf8 w s) well step
