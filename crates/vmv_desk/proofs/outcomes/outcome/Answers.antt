-- An act is on a project, or opens one.
use Rattle.std.proofs.Common.{rules}
use Rattle.vmv_desk_rules.proofs.HeardLemmas.{by_any, by_ok}
use Rattle.vmv_desk.proofs.SaidLemmas.{outcome_opened, outcome_acted}
use Rattle.vmv_desk.proofs.outcomes.outcome.Goals as goal

pub returns-then-branch-ge100000-clause-told : goal.returns-then-branch-ge100000-clause-told
returns-then-branch-ge100000-clause-told g c =
    let judge = c.args.judge.now in
    let I = g.J.Judge.inspected judge in
    let C = g.J.Judge.compared judge in
    by_any I C _ (λ M. search rules)

pub returns-in-OpenProject-clause-told : goal.returns-in-OpenProject-clause-told
returns-in-OpenProject-clause-told g c =
    let judge = c.args.judge.now in
    let I = g.J.Judge.inspected judge in
    let C = g.J.Judge.compared judge in
    by_ok I C c.opening.result _ _ (λ M found h.
    outcome_opened (g.K.Keeper.told c.args.keeper.now) (g.K.Keeper.told c.replies.new.self) M c.args.caller.now c.in-OpenProject.name c.in-OpenProject.text c.args.act.now c.in_ok-replies.field-0 found
    (search rules) c.in-OpenProject.is c.in_ok-replies.ensures.told c.if-branch-ge100000.false h) c.opening.ensures.told

pub returns-in-AddMember-clause-told : goal.returns-in-AddMember-clause-told
returns-in-AddMember-clause-told g c =
    let judge = c.args.judge.now in
    let I = g.J.Judge.inspected judge in
    let C = g.J.Judge.compared judge in
    by_ok I C c.acting.result _ _ (λ M found h.
    outcome_acted (g.K.Keeper.told c.args.keeper.now) (g.K.Keeper.told c.replies.new.self) M c.args.caller.now c.in-AddMember.owner c.in-AddMember.project c.args.act.now c.in_ok-replies.field-0 found
    (search rules) (search rules) (search rules) (search rules) c.in_ok-replies.ensures.told c.if-branch-ge100000.false h) c.acting.ensures.told
