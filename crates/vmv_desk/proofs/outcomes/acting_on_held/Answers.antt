-- The causes of the rows come before those that a judge finds.
use Rattle.std.proofs.Common.{◌≡◌, true, rules}
use Rattle.vmv_keeper.specs.Changes.{owner_of, name_of}
use Rattle.vmv_desk.specs.AtHand.{has_member}
use Rattle.vmv_desk_rules.proofs.HeardLemmas.{by_any, by_map}
use Rattle.vmv_desk.proofs.HeldLemmas.{no_member, stopped_by_rows, stopped_by_judge, done_at}
use Rattle.vmv_desk.proofs.outcomes.acting_on_held.Goals as goal

pub returns-then-not-is_member-clause-told : goal.returns-then-not-is_member-clause-told
returns-then-not-is_member-clause-told g c =
    let judge = c.args.judge.now in
    let I = g.J.Judge.inspected judge in
    let C = g.J.Judge.compared judge in
    by_any I C _ (λ M.
    no_member (g.K.Keeper.told c.args.keeper.now) (owner_of c.args.caller.now c.args.act.now) (name_of c.args.act.now) M c.args.caller.now c.args.act.now c.args.held.now c.args.queue.now c.not_found.result
    (search rules) c.not_found.ensures)

pub returns-in-Some-clause-told : goal.returns-in-Some-clause-told
returns-in-Some-clause-told g c =
    let judge = c.args.judge.now in
    let I = g.J.Judge.inspected judge in
    let C = g.J.Judge.compared judge in
    let member : has_member c.args.held.now c.args.caller.now ≡ true = search rules in
    by_any I C _ (λ M.
    stopped_by_rows (g.K.Keeper.told c.args.keeper.now) (owner_of c.args.caller.now c.args.act.now) (name_of c.args.act.now)
    M c.args.caller.now c.args.act.now c.args.held.now c.args.queue.now c.in-Some.reply
    member c.in-Some.ensures.cause)

pub returns-in-Some-2-clause-told : goal.returns-in-Some-2-clause-told
returns-in-Some-2-clause-told g c =
    let judge = c.args.judge.now in
    let I = g.J.Judge.inspected judge in
    let C = g.J.Judge.compared judge in
    let member : has_member c.args.held.now c.args.caller.now ≡ true = search rules in
    by_map I C _ _ (λ M h.
    stopped_by_judge (g.K.Keeper.told c.args.keeper.now) (owner_of c.args.caller.now c.args.act.now) (name_of c.args.act.now)
    M c.args.caller.now c.args.act.now c.args.held.now c.args.queue.now c.in-Some-2.reply c.in_ok-reply.field-0
    member (search rules) c.in-Some-2.is (h c.args.caller.now)) c.in_ok-reply.ensures.told

pub returns-clause-told : goal.returns-clause-told
returns-clause-told g c =
    let judge = c.args.judge.now in
    let I = g.J.Judge.inspected judge in
    let C = g.J.Judge.compared judge in
    let member : has_member c.args.held.now c.args.caller.now ≡ true = search rules in
    by_map I C _ _ (λ M h.
    done_at (g.K.Keeper.told c.args.keeper.now) (owner_of c.args.caller.now c.args.act.now) (name_of c.args.act.now)
    M c.args.caller.now c.args.act.now c.args.held.now c.args.queue.now c.effect_on.result c.in_ok-reply.field-0
    member (search rules) c.in_default-2.is c.effect_on.ensures.effect (h c.args.caller.now)) c.in_ok-reply.ensures.told
