use Rattle.std.proofs.lemmas.Result.{on_ok_weaker}
use Rattle.vmv_demands.specs.Back.{results}
use Rattle.vmv_demands.proofs.Standing.{on_slice, plain_stands, help_stands, if_stands, repeat_stands}
use Rattle.vmv_demands.proofs.sources.step.Goals as goal

pub returns-in-Plain : goal.returns-in-Plain
returns-in-Plain c =
    let r = results c.args.snapshot.now.codes c.args.proc.0 in
    on_ok_weaker c.step_simple.result (λ next. λ before stands. plain_stands before c.args.sources.now stands _ r c.args.stmt.now _ c.in-Plain.is (next r before stands)) c.step_simple.ensures

pub returns-in-Help : goal.returns-in-Help
returns-in-Help c =
    let r = results c.args.snapshot.now.codes c.args.proc.0 in
    on_ok_weaker c.put.result (λ puts. λ before stands. help_stands before c.args.sources.now stands _ r c.args.stmt.now c.in-Help.to c.in-Help.callee _ _ c.result_of-inside.result c.returned-source.result c.in-Help.is c.as_slice-in-Help.ensures puts
    (c.returned-source.ensures before (on_slice before _ _ c.as_slice.ensures stands)) c.result_of-inside.ensures) c.put.ensures

pub returns-in-If : goal.returns-in-If
returns-in-If c =
    let r = results c.args.snapshot.now.codes c.args.proc.0 in
    on_ok_weaker c.lose.result (λ loses. λ before stands. if_stands before c.args.sources.now stands _ r c.args.stmt.now _ _ _ c.in-If.is loses) c.lose.ensures

pub returns-in-Repeat : goal.returns-in-Repeat
returns-in-Repeat c =
    let r = results c.args.snapshot.now.codes c.args.proc.0 in
    on_ok_weaker c.lose-in-Repeat.result (λ loses. λ before stands. repeat_stands before c.args.sources.now stands _ r c.args.stmt.now _ c.in-Repeat.is loses) c.lose-in-Repeat.ensures
