-- The project that is there is the one that the store and the queues give.
use Rattle.std.proofs.Common.{◌≡◌, Ok, true, rules}
use Rattle.vmv_keeper.specs.declared.fault.KeepFault.{KeepFault}
use Rattle.vmv_desk_rules.specs.Step.{asked_owner, asked_name, answer_on}
use Rattle.vmv_desk.specs.AtHand.{has_member}
use Rattle.vmv_desk_rules.proofs.HeardLemmas.{by_any, by_ok}
use Rattle.vmv_desk.proofs.AskedLemmas.{found_no_queue, found_held, not_a_member, asked_result}
use Rattle.vmv_desk.proofs.asking.ask_of.Goals as goal

pub returns-in_default-clause-told : goal.returns-in_default-clause-told
returns-in_default-clause-told g c =
    let judge = c.args.judge.now in
    let I = g.J.Judge.inspected judge in
    let C = g.J.Judge.compared judge in
    by_any I C _ (λ M. search rules)

pub returns-then-not-is_member-clause-told : goal.returns-then-not-is_member-clause-told
returns-then-not-is_member-clause-told g c =
    let judge = c.args.judge.now in
    let I = g.J.Judge.inspected judge in
    let C = g.J.Judge.compared judge in
    by_any I C _ (λ M formed.
    found_held (g.K.Keeper.told c.args.keeper.now) c.args.owner.now c.args.name.now (answer_on M c.args.caller.now c.args.query.now) c.in-Some.held c.in-Some-queue_of.queue.now c.args.queues.now _
    c.requires.agrees (search rules) (search rules)
    (not_a_member (g.K.Keeper.told c.args.keeper.now) c.args.owner.now c.args.name.now M c.args.caller.now c.args.query.now c.in-Some.held c.in-Some-queue_of.queue.now (search rules)))

pub returns-in_default-queue_of-clause-told : goal.returns-in_default-queue_of-clause-told
returns-in_default-queue_of-clause-told g c =
    let judge = c.args.judge.now in
    let I = g.J.Judge.inspected judge in
    let C = g.J.Judge.compared judge in
    by_any I C _ (λ M formed.
    found_no_queue (g.K.Keeper.told c.args.keeper.now) c.args.owner.now c.args.name.now
    (answer_on M c.args.caller.now c.args.query.now) c.in-Some.held c.args.queues.now _
    c.requires.agrees (search rules) (search rules))

pub returns-clause-told : goal.returns-clause-told
returns-clause-told g c =
    let judge = c.args.judge.now in
    let I = g.J.Judge.inspected judge in
    let C = g.J.Judge.compared judge in
    let member : has_member c.in-Some.held c.args.caller.now ≡ true = search rules in
    by_ok I C c.told_of.result _ _ (λ M reply h.
    asked_result {E = KeepFault} (g.K.Keeper.told c.args.keeper.now) (g.K.Keeper.told c.load.new.self) c.args.owner.now c.args.name.now (asked_owner c.args.query.now) (asked_name c.args.query.now)
    M c.args.caller.now c.args.query.now c.in-Some.held c.in-Some-queue_of.queue.now c.args.queues.now (Ok reply)
    c.requires.agrees (search rules) (search rules) c.load.ensures.kept c.requires.owner c.requires.name member h) c.told_of.ensures.told
