use Rattle.std.proofs.Common.{◌∙◌, arith, length, take, pos}
use Rattle.std.proofs.Math.ListN.{length-set}
use Rattle.vmv_snapshot.specs.declared.code.CodeOperand.TheVariants.{Lit}
use Rattle.vmv_zone.specs.Zone.{vars_of}
use Rattle.vmv_step.proofs.Arguments.{one_more, all_inside, passed, all_done}
use Rattle.vmv_step.proofs.passing.pass_into.Goals as goal

pub loop-i-preserved : goal.loop-i-preserved
loop-i-preserved c =
    let was = c.loop-i.invariant in
    let full = was.full in
    let few = c.requires.few in
    record {
      full = length-set c.loop-i.operands c.loop-i.i c.zone_operand.result ∙ full;
      done = one_more c.args.args.now c.loop-i.operands c.loop-i.i c.zone_operand.result (Lit (pos 0)) (omega arith) (omega arith) was.done c.zone_operand.ensures;
    }

pub copy_args_to-requires-clause-operands : goal.copy_args_to-requires-clause-operands
copy_args_to-requires-clause-operands c =
    all_inside (vars_of c.args.zone.now) c.args.args.now (take (length c.args.args.now) c.loop-i.operands) (all_done c.args.args.now c.loop-i.operands c.loop-i.i (omega arith) c.loop-i.invariant.done) c.requires.inside

pub returns : goal.returns
returns c =
    passed c.args.zone.now c.copy_args_to.new.into c.args.args.now (take (length c.args.args.now) c.loop-i.operands) (all_done c.args.args.now c.loop-i.operands c.loop-i.i (omega arith) c.loop-i.invariant.done) c.copy_args_to.ensures
