use Rattle.vmv_print.proofs.Writing.{items_end, items_next, items_text_next}
use Rattle.vmv_print.proofs.item.push_items.Goals as goal

pub loop-item-preserved : goal.loop-item-preserved
loop-item-preserved c = record {
  text = items_text_next _ _ _ c.args.items.now c.loop-item.item-index c.item-item.result c.loop-item-test.true c.item-item.is c.in_ok-push_item.ensures.text c.loop-item.invariant.text;
  written = items_next c.args.items.now c.loop-item.item-index c.item-item.result c.loop-item-test.true c.item-item.is c.in_ok-push_item.ensures.written c.loop-item.invariant.written;
}

pub returns-clause-written : goal.returns-clause-written
returns-clause-written c = items_end c.args.items.now c.loop-item.item-index c.loop-item-test.false c.loop-item.invariant.written
