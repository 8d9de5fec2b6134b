-- The causes are tried in their order.
use Rattle.vmv_desk_rules.proofs.HeardLemmas.{by_two, by_inspecting, by_comparing}
use Rattle.std.proofs.Common.{◌≡◌, ap, sym, ◌∙◌, ◌∷◌, []}
use Rattle.vmv_desk_rules.specs.Causes.{if_not_correct, if_vacuous}
use Rattle.vmv_desk.proofs.SaidLemmas.{stopped, passed, one_cause}
use Rattle.vmv_desk.proofs.judging.compared_cause.Goals as goal

pub returns-in-Some-clause-cause : goal.returns-in-Some-clause-cause
returns-in-Some-clause-cause g c =
    let judge = c.args.judge.now in
    let I = g.J.Judge.inspected judge in
    let C = g.J.Judge.compared judge in
    by_comparing I C _ c.args.root.now c.args.text.now c.in_ok-compare.field-0 c.in_ok-compare.ensures
    (λ M e. stopped (if_not_correct (M.compared c.args.root.now c.args.text.now)) (if_vacuous (M.inspected c.args.text.now) ∷ []) c.in-Some.reply
    (ap if_not_correct e ∙ sym c.not_correct.ensures.cause ∙ c.in-Some.is))

pub returns-clause-cause : goal.returns-clause-cause
returns-clause-cause g c =
    let judge = c.args.judge.now in
    let I = g.J.Judge.inspected judge in
    let C = g.J.Judge.compared judge in
    let root = c.args.root.now in
    let text = c.args.text.now in
    by_two I C (λ M. M.compared root text ≡ c.in_ok-compare.field-0) (λ M. M.inspected text ≡ c.in_ok-inspect.field-0) _
    (λ M reads first second.
    c.vacuous.ensures.cause ∙ sym (ap if_vacuous second) ∙ one_cause (if_vacuous (M.inspected text))
    ∙ passed (if_not_correct (M.compared root text)) (if_vacuous (M.inspected text) ∷ []) (ap if_not_correct first ∙ sym c.not_correct.ensures.cause ∙ c.in_default.is))
    (by_comparing I C (λ M. M.compared root text ≡ c.in_ok-compare.field-0) root text c.in_ok-compare.field-0 c.in_ok-compare.ensures (λ M e. e))
    (by_inspecting I C (λ M. M.inspected text ≡ c.in_ok-inspect.field-0) text c.in_ok-inspect.field-0 c.in_ok-inspect.ensures (λ M e. e))
