-- An act that is done fits.
use Rattle.std.proofs.Common.{rules}
use Rattle.vmv_desk_rules.proofs.HeardLemmas.{by_any, by_map}
use Rattle.vmv_desk.proofs.SaidLemmas.{fits_by, stepped_repeated, stepped_not, stepped_done}
use Rattle.vmv_desk.proofs.changing.change.Goals as goal

pub make-requires-clause-fits : goal.make-requires-clause-fits
make-requires-clause-fits g c =
    let judge = c.args.judge.now in
    let I = g.J.Judge.inspected judge in
    let C = g.J.Judge.compared judge in
    fits_by I C (λ text a b h k. g.met.J.Judge.one_inspected judge text a b h k) (λ base revision a b h k. g.met.J.Judge.one_compared judge base revision a b h k) (λ text said is h. g.met.J.Judge.utf8 judge text said is h)
    (g.K.Keeper.told c.args.keeper.now) (g.K.Keeper.told c.reply_of.new.self) (g.K.Keeper.told c.outcome.new.keeper) c.args.caller.now c.args.id.now c.args.act.now c.in_ok-reply.field-0 c.in-Done.effect
    (search rules) (search rules) c.in-Done.is (search rules) c.in_ok-reply.ensures.told

pub returns-in-Some-clause-stepped : goal.returns-in-Some-clause-stepped
returns-in-Some-clause-stepped g c =
    let judge = c.args.judge.now in
    let I = g.J.Judge.inspected judge in
    let C = g.J.Judge.compared judge in
    by_any I C _ (λ M.
    stepped_repeated (g.K.Keeper.told c.args.keeper.now) (g.K.Keeper.told c.reply_of.new.self) M c.args.caller.now c.args.id.now c.args.act.now c.in-Some.kept c.repeated.result
    (search rules) (search rules) c.repeated.ensures.kept)

pub returns-in-NotDone-clause-stepped : goal.returns-in-NotDone-clause-stepped
returns-in-NotDone-clause-stepped g c =
    let judge = c.args.judge.now in
    let I = g.J.Judge.inspected judge in
    let C = g.J.Judge.compared judge in
    by_map I C _ _ (λ M h.
    stepped_not (g.K.Keeper.told c.args.keeper.now) (g.K.Keeper.told c.reply_of.new.self) (g.K.Keeper.told c.outcome.new.keeper) M c.args.caller.now c.args.id.now c.args.act.now c.in_ok-reply.field-0 c.in-NotDone.reply
    (search rules) (search rules) (search rules) c.in-NotDone.is h) c.in_ok-reply.ensures.told

pub returns-in-Done-clause-stepped : goal.returns-in-Done-clause-stepped
returns-in-Done-clause-stepped g c =
    let judge = c.args.judge.now in
    let I = g.J.Judge.inspected judge in
    let C = g.J.Judge.compared judge in
    stepped_done I C (g.K.Keeper.told c.args.keeper.now) (g.K.Keeper.told c.reply_of.new.self) (g.K.Keeper.told c.outcome.new.keeper) (g.K.Keeper.told c.make.new.keeper)
    c.args.caller.now c.args.id.now c.args.act.now c.in_ok-reply.field-0 c.in-Done.effect c.make.result
    (search rules) (search rules) c.make.ensures.done c.make.ensures.reply (search rules) c.in-Done.is c.in_ok-reply.ensures.told
