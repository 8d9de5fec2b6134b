use Rattle.vmv_print.specs.Canonical.{operand_text}
use Rattle.vmv_print.specs.Written.{IsWrittenOperand}
use Rattle.vmv_print.proofs.Writing.{all_next, commas_next}
use Rattle.vmv_print.proofs.lists.push_more_args.Goals as goal

pub loop-arg-preserved : goal.loop-arg-preserved
loop-arg-preserved c = record {
  text = commas_next operand_text _ _ _ _ c.args.args.now c.loop-arg.arg-index c.arg-item.result c.loop-arg-test.true c.arg-item.is c.in_ok-push_comma.ensures c.in_ok-push_operand.ensures.text c.loop-arg.invariant.text;
  written = all_next IsWrittenOperand c.args.args.now c.loop-arg.arg-index c.arg-item.result c.loop-arg-test.true c.arg-item.is c.in_ok-push_operand.ensures.written c.loop-arg.invariant.written;
}
