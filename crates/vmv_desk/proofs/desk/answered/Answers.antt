-- A question changes nothing.
use Rattle.std.proofs.Common.{rules}
use Rattle.vmv_desk_rules.proofs.HeardLemmas.{by_ok}
use Rattle.vmv_desk.proofs.SaidLemmas.{stepped_asked}
use Rattle.vmv_desk.proofs.desk.answered.Goals as goal

pub returns-in-Ask-clause-stepped : goal.returns-in-Ask-clause-stepped
returns-in-Ask-clause-stepped g c =
    let judge = c.args.judge.now in
    let I = g.J.Judge.inspected judge in
    let C = g.J.Judge.compared judge in
    by_ok I C c.ask.result _ _ (λ M reply h.
    stepped_asked (g.K.Keeper.told c.args.keeper.now) (g.K.Keeper.told c.ask.new.keeper) M c.args.command.now c.in-Ask.caller c.in-Ask.query reply
    c.in-Ask.is (search rules) h) c.ask.ensures.told
