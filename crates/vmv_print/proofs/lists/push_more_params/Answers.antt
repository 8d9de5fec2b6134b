use Rattle.vmv_print.specs.Canonical.{param_text}
use Rattle.vmv_print.specs.Written.{IsWrittenParam}
use Rattle.vmv_print.proofs.Writing.{all_next, commas_next}
use Rattle.vmv_print.proofs.lists.push_more_params.Goals as goal

pub loop-param-preserved : goal.loop-param-preserved
loop-param-preserved c = record {
  text = commas_next param_text _ _ _ _ c.args.params.now c.loop-param.param-index c.param-item.result c.loop-param-test.true c.param-item.is c.in_ok-push_comma.ensures c.in_ok-push_param.ensures.text c.loop-param.invariant.text;
  written = all_next IsWrittenParam c.args.params.now c.loop-param.param-index c.param-item.result c.loop-param-test.true c.param-item.is c.in_ok-push_param.ensures.written c.loop-param.invariant.written;
}
