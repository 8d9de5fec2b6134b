use Rattle.std.proofs.Common.{◌∙◌, sym}
use Rattle.vmv_lower.proofs.Ends.{front_some, last_some, assigned_made, simple_assigned, no_last}
use Rattle.vmv_lower.proofs.Stacks.{if_ok}
use Rattle.vmv_lower.proofs.expression.assigned.Goals as goal

pub unreachable-requires : goal.unreachable-requires
unreachable-requires c = no_last c.args.steps.now c.requires c.in_default.ensures.cases

pub returns-in-Some-simple : goal.returns-in-Some-simple
returns-in-Some-simple c =
    if_ok c.one.result _ _
    (λ block made e is. made ∙ simple_assigned e c.args.to c.in-Some.front.now c.in-Some.last.now c.in-Some-simple.from (sym c.in-Some.ensures.cases.0 ∙ is) (sym c.in-Some-simple.ensures))
    c.one.ensures

pub run-requires : goal.run-requires
run-requires c =
    front_some c.args.steps.now c.in-Some.front.now c.in-Some.last.now c.args.to _ c.requires c.in-Some.ensures.cases.0 (sym c.in_default-simple.ensures) c.new-machine.ensures

pub step-requires : goal.step-requires
step-requires c =
    last_some c.args.steps.now c.in-Some.front.now c.in-Some.last.now c.args.to _ _ c.requires c.in-Some.ensures.cases.0 (sym c.in_default-simple.ensures) c.new-machine.ensures c.in_ok-run.ensures

pub returns : goal.returns
returns c = λ e is.
    assigned_made e c.args.steps.now c.in-Some.front.now c.in-Some.last.now c.args.to _ _ _ is c.in-Some.ensures.cases.0 (sym c.in_default-simple.ensures) c.new-machine.ensures c.in_ok-run.ensures c.in_ok-step.ensures
