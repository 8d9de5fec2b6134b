use Rattle.std.proofs.Common.{arith, ◌∙◌}
use Rattle.vmv_snapshot.specs.declared.code.ProcId.{ProcId}
use Rattle.vmv_forward.proofs.Fresh.{callee_inside, few_params, inputs_more}
use Rattle.vmv_forward.proofs.grow.bottom_inputs.Goals as goal

abbrev first : ProcId
first = record { 0 = 0 }

pub params-requires : goal.params-requires
params-requires c = callee_inside c.args.snapshot.now c.args.callees.now c.loop-callee.callee-index first c.requires c.loop-callee-test.true

pub overflow_cast-params : goal.overflow_cast-params
overflow_cast-params c =
    let few = few_params c.args.snapshot.now c.args.callees.now c.loop-callee.callee-index c.len-params.result first c.params.result.now c.requires c.loop-callee-test.true c.params.ensures c.len-params.ensures in
    omega (arith, few)

pub bottom-requires : goal.bottom-requires
bottom-requires c = few_params c.args.snapshot.now c.args.callees.now c.loop-callee.callee-index c.len-params.result first c.params.result.now c.requires c.loop-callee-test.true c.params.ensures c.len-params.ensures

pub loop-callee-preserved : goal.loop-callee-preserved
loop-callee-preserved c =
    inputs_more c.args.snapshot.now c.args.callees.now c.loop-callee.callee-index first c.params.result.now c.loop-callee.inputs.items c.push.new.self.items c.bottom.result c.loop-callee-test.true c.params.ensures
    (c.bottom.ensures.vars ∙ c.len-params.ensures) c.bottom.ensures.bottom c.in_ok-push.ensures.items c.loop-callee.invariant
