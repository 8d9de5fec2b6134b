-- The project that is there is the one that the store and the queues give.
use Rattle.std.proofs.Common.{Ok, rules}
use Rattle.vmv_keeper.specs.declared.fault.KeepFault.{KeepFault}
use Rattle.vmv_desk_rules.proofs.HeardLemmas.{by_any, by_ok}
use Rattle.vmv_desk.proofs.HeldLemmas.{no_queue, from_held}
use Rattle.vmv_desk.proofs.outcomes.acting.Goals as goal

pub returns-in_default-clause-told : goal.returns-in_default-clause-told
returns-in_default-clause-told g c =
    let judge = c.args.judge.now in
    let I = g.J.Judge.inspected judge in
    let C = g.J.Judge.compared judge in
    by_any I C _ (λ M. search rules)

pub returns-in_default-queue_of-clause-told : goal.returns-in_default-queue_of-clause-told
returns-in_default-queue_of-clause-told g c =
    let judge = c.args.judge.now in
    let I = g.J.Judge.inspected judge in
    let C = g.J.Judge.compared judge in
    by_any I C _ (λ M.
    no_queue (g.K.Keeper.told c.args.keeper.now) c.args.owner.now c.args.name.now
    M c.args.caller.now c.args.act.now c.in-Some.held c.args.queues.now c.not_found-in_default-queue_of.result
    c.requires.agrees (search rules) (search rules) c.not_found-in_default-queue_of.ensures)

pub returns-clause-told : goal.returns-clause-told
returns-clause-told g c =
    let judge = c.args.judge.now in
    let I = g.J.Judge.inspected judge in
    let C = g.J.Judge.compared judge in
    by_ok I C c.acting_on_held.result _ _ (λ M found h.
    from_held {E = KeepFault} (g.K.Keeper.told c.args.keeper.now) (g.K.Keeper.told c.load.new.self) c.args.owner.now c.args.name.now
    M c.args.caller.now c.args.act.now c.in-Some.held c.in-Some-queue_of.queue.now c.args.queues.now (Ok found)
    c.requires.agrees (search rules) (search rules) c.load.ensures.kept c.requires.owner c.requires.name h) c.acting_on_held.ensures.told
