-- A command is handled by its step, and a refusal leaves the rows.
use Rattle.std.proofs.Common.{Result, subst}
use Rattle.vmv_keeper.specs.declared.act.Command.{Command}
use Rattle.vmv_head.specs.declared.refusal.Refusal.{Refusal}
use Rattle.vmv_http.specs.Requests.{Asks}
use Rattle.vmv_http.proofs.Exchanging.{handled, refused}
use Rattle.vmv_http.proofs.answering.answer.Goals as goal

pub returns-in-Ok-clause-may : goal.returns-in-Ok-clause-may
returns-in-Ok-clause-may g c input asks =
    let P : Result Command Refusal → Type 0 = λ a. Asks input a in (c.in-Ok.command, subst P c.in-Ok.is asks, c.handle.ensures.reply)

pub returns-in-Ok-clause-exchanged : goal.returns-in-Ok-clause-exchanged
returns-in-Ok-clause-exchanged g c input asks =
    let P : Result Command Refusal → Type 0 = λ a. Asks input a in
    let judge = c.args.judge.now in
    handled (g.J.Judge.inspected judge) (g.J.Judge.compared judge) input (g.K.Keeper.told c.args.desk.now) (g.K.Keeper.told c.handle.new.self)
    c.in-Ok.command c.handle.result (subst P c.in-Ok.is asks) c.handle.ensures.handled

pub returns-in-Err-clause-may : goal.returns-in-Err-clause-may
returns-in-Err-clause-may g c input asks = let P : Result Command Refusal → Type 0 = λ a. Asks input a in subst P c.in-Err.is asks

pub returns-in-Err-clause-exchanged : goal.returns-in-Err-clause-exchanged
returns-in-Err-clause-exchanged g c input asks =
    let P : Result Command Refusal → Type 0 = λ a. Asks input a in
    let judge = c.args.judge.now in
    refused (g.J.Judge.inspected judge) (g.J.Judge.compared judge) input (g.K.Keeper.told c.args.desk.now) c.in-Err.refusal (subst P c.in-Err.is asks)
