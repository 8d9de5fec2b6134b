use Rattle.vmv_back.proofs.Slots.{out_of_plain, out_of_help, out_of_if, out_of_repeat, rests_next, rests_end}
use Rattle.vmv_back.proofs.fixed.+assigned.Goals as goal

pub take_out_assigned-returns-in-Plain : goal.take_out_assigned-returns-in-Plain
take_out_assigned-returns-in-Plain t c = out_of_plain _ _ _ _ c.in-Plain.is c.take_out_simple.ensures

pub take_out_assigned-returns-in-Help : goal.take_out_assigned-returns-in-Help
take_out_assigned-returns-in-Help t c = out_of_help _ _ _ _ _ _ c.in-Help.is c.take_out.ensures

pub take_out_assigned-returns-in-If : goal.take_out_assigned-returns-in-If
take_out_assigned-returns-in-If t c =
    out_of_if _ _ _ _ _ _ _ _ _ c.in-If.is c.as_slice.ensures c.as_slice-in-If.ensures c.take_out_block.ensures c.take_out_block-in-If.ensures

pub take_out_assigned-returns-in-Repeat : goal.take_out_assigned-returns-in-Repeat
take_out_assigned-returns-in-Repeat t c =
    out_of_repeat _ _ _ _ _ _ c.in-Repeat.is c.as_slice-in-Repeat.ensures c.take_out-in-Repeat.ensures c.take_out_block-in-Repeat.ensures

pub take_out_block-loop-stmt-preserved : goal.take_out_block-loop-stmt-preserved
take_out_block-loop-stmt-preserved t c =
    rests_next _ _ _ _ _ _ c.loop-stmt-test.true c.stmt-item.is c.loop-stmt.invariant c.take_out_assigned.ensures

pub take_out_block-returns : goal.take_out_block-returns
take_out_block-returns t c = rests_end _ _ _ _ c.loop-stmt-test.false c.loop-stmt.invariant
