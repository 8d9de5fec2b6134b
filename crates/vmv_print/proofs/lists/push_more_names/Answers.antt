use Rattle.vmv_print.specs.Written.{IsName}
use Rattle.vmv_print.proofs.Writing.{all_next, commas_next}
use Rattle.vmv_print.proofs.lists.push_more_names.Goals as goal

pub loop-name-preserved : goal.loop-name-preserved
loop-name-preserved c = record {
  text = commas_next (λ x. x) _ _ _ _ c.args.names.now c.loop-name.name-index c.name-item.result c.loop-name-test.true c.name-item.is c.in_ok-push_comma.ensures c.in_ok-push_name.ensures.text c.loop-name.invariant.text;
  written = all_next IsName c.args.names.now c.loop-name.name-index c.name-item.result c.loop-name-test.true c.name-item.is c.in_ok-push_name.ensures.written c.loop-name.invariant.written;
}
