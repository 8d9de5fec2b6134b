-- The causes are tried in their order.
use Rattle.std.proofs.Common.{◌≡◌, true, false, count_by, is_some, refl, sym, ◌∙◌, rules}
use Rattle.vmv_keeper.specs.Tables.{is_same}
use Rattle.vmv_keeper.specs.declared.project.Bench.{Bench}
use Rattle.vmv_desk_rules.specs.Causes.{opening}
use Rattle.vmv_desk_rules.specs.declared.outcome.Outcome.TheVariants.{Done, NotDone}
use Rattle.vmv_keeper.specs.declared.reply.Reply.TheVariants.{Full}
use Rattle.vmv_desk_rules.proofs.HeardLemmas.{by_any, by_inspecting}
use Rattle.vmv_desk.proofs.SaidLemmas.{opening_at, opening_found, is_full, is_not_full, tried_refused, tried_vacuous, tried_fine}
use Rattle.vmv_desk.proofs.outcomes.opening.Goals as goal

pub returns-then-is_some-clause-told : goal.returns-then-is_some-clause-told
returns-then-is_some-clause-told g c =
    let judge = c.args.judge.now in
    let I = g.J.Judge.inspected judge in
    let C = g.J.Judge.compared judge in
    by_any I C _ (λ M. search rules)

pub returns-then-owned_count-ge64-clause-told : goal.returns-then-owned_count-ge64-clause-told
returns-then-owned_count-ge64-clause-told g c =
    let judge = c.args.judge.now in
    let I = g.J.Judge.inspected judge in
    let C = g.J.Judge.compared judge in
    let told = g.K.Keeper.told c.args.keeper.now in
    let none : is_some c.in_ok-load.field-0 ≡ false = search rules in
    let many : c.owned_count.result ≡ count_by (λ (q : Bench). is_same q.owner c.args.caller.now) c.args.queues.now = search rules in
    by_any I C _ (λ M.
    opening_found told c.args.caller.now c.args.name.now (M.inspected c.args.text.now) c.in_ok-load.field-0 c.args.queues.now c.owned_count.result true (NotDone (Full 2))
    c.requires c.in_ok-load.ensures.told none many (is_full c.owned_count.result (search rules)) refl)

pub returns-in-Some-clause-told : goal.returns-in-Some-clause-told
returns-in-Some-clause-told g c =
    let judge = c.args.judge.now in
    let I = g.J.Judge.inspected judge in
    let C = g.J.Judge.compared judge in
    let told = g.K.Keeper.told c.args.keeper.now in
    let none : is_some c.in_ok-load.field-0 ≡ false = search rules in
    let many : c.owned_count.result ≡ count_by (λ (q : Bench). is_same q.owner c.args.caller.now) c.args.queues.now = search rules in
    by_inspecting I C _ c.args.text.now c.in_ok-said.said c.in_ok-said.ensures (λ M e.
    opening_at told M c.args.caller.now c.args.name.now c.args.text.now c.in_ok-said.said (NotDone c.in-Some.reply) e
    (opening_found told c.args.caller.now c.args.name.now c.in_ok-said.said c.in_ok-load.field-0 c.args.queues.now c.owned_count.result false (NotDone c.in-Some.reply)
    c.requires c.in_ok-load.ensures.told none many (is_not_full c.owned_count.result (search rules)) (tried_refused c.in_ok-said.said c.in-Some.reply (sym c.refused.ensures.cause ∙ c.in-Some.is))))

pub returns-in-Some-vacuous-clause-told : goal.returns-in-Some-vacuous-clause-told
returns-in-Some-vacuous-clause-told g c =
    let judge = c.args.judge.now in
    let I = g.J.Judge.inspected judge in
    let C = g.J.Judge.compared judge in
    let told = g.K.Keeper.told c.args.keeper.now in
    let none : is_some c.in_ok-load.field-0 ≡ false = search rules in
    let many : c.owned_count.result ≡ count_by (λ (q : Bench). is_same q.owner c.args.caller.now) c.args.queues.now = search rules in
    by_inspecting I C _ c.args.text.now c.in_ok-said.said c.in_ok-said.ensures (λ M e.
    opening_at told M c.args.caller.now c.args.name.now c.args.text.now c.in_ok-said.said (NotDone c.in-Some-vacuous.reply) e
    (opening_found told c.args.caller.now c.args.name.now c.in_ok-said.said c.in_ok-load.field-0 c.args.queues.now c.owned_count.result false (NotDone c.in-Some-vacuous.reply)
    c.requires c.in_ok-load.ensures.told none many (is_not_full c.owned_count.result (search rules)) (tried_vacuous c.in_ok-said.said c.in-Some-vacuous.reply (sym c.refused.ensures.cause ∙ c.in_default.is) (sym c.vacuous.ensures.cause ∙ c.in-Some-vacuous.is))))

pub returns-clause-told : goal.returns-clause-told
returns-clause-told g c =
    let judge = c.args.judge.now in
    let I = g.J.Judge.inspected judge in
    let C = g.J.Judge.compared judge in
    let told = g.K.Keeper.told c.args.keeper.now in
    let none : is_some c.in_ok-load.field-0 ≡ false = search rules in
    let many : c.owned_count.result ≡ count_by (λ (q : Bench). is_same q.owner c.args.caller.now) c.args.queues.now = search rules in
    by_inspecting I C _ c.args.text.now c.in_ok-said.said c.in_ok-said.ensures (λ M e.
    opening_at told M c.args.caller.now c.args.name.now c.args.text.now c.in_ok-said.said (Done opening) e
    (opening_found told c.args.caller.now c.args.name.now c.in_ok-said.said c.in_ok-load.field-0 c.args.queues.now c.owned_count.result false (Done opening)
    c.requires c.in_ok-load.ensures.told none many (is_not_full c.owned_count.result (search rules)) (tried_fine c.in_ok-said.said (sym c.refused.ensures.cause ∙ c.in_default.is) (sym c.vacuous.ensures.cause ∙ c.in_default-vacuous.is))))
