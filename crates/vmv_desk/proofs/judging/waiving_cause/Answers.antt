-- The text is the submission's.
use Rattle.std.proofs.Common.{rules}
use Rattle.vmv_desk_rules.proofs.HeardLemmas.{by_any, by_inspecting}
use Rattle.vmv_desk.proofs.TextsLemmas.{waiving_found}
use Rattle.vmv_desk.proofs.judging.waiving_cause.Goals as goal

pub returns-in_default-clause-told : goal.returns-in_default-clause-told
returns-in_default-clause-told g c =
    let judge = c.args.judge.now in
    let I = g.J.Judge.inspected judge in
    let C = g.J.Judge.compared judge in
    by_any I C _ (λ M. search rules)

pub returns-clause-told : goal.returns-clause-told
returns-clause-told g c =
    let judge = c.args.judge.now in
    let I = g.J.Judge.inspected judge in
    let C = g.J.Judge.compared judge in
    by_inspecting I C _ c.in-Some.submitted.text c.in_ok-inspect.field-0 c.in_ok-inspect.ensures
    (λ M e held. waiving_found (g.K.Keeper.told c.args.keeper.now) c.args.owner.now c.args.project.now held c.args.submission M c.in-Some.submitted c.in_ok-inspect.field-0 c.vacuous.result
    (search rules) e c.vacuous.ensures.cause)
