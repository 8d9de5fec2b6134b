use Rattle.vmv_snapshot.proofs.SlotLists.{loops_of_if, loops_of_repeat, loops_of_simple, loops_over}
use Rattle.vmv_snapshot.proofs.slots.+loops.Goals as goal

pub push_loops-returns-in-Set : goal.push_loops-returns-in-Set
push_loops-returns-in-Set t c = loops_of_simple _ _ c.in-Set.is

pub push_loops-returns-in-Set-2 : goal.push_loops-returns-in-Set-2
push_loops-returns-in-Set-2 t c = loops_of_simple _ _ c.in-Set.is

pub push_loops-returns-in-Set-3 : goal.push_loops-returns-in-Set-3
push_loops-returns-in-Set-3 t c = loops_of_simple _ _ c.in-Set.is

pub push_loops-returns-in-Set-4 : goal.push_loops-returns-in-Set-4
push_loops-returns-in-Set-4 t c = loops_of_simple _ _ c.in-Set.is

pub push_loops-returns-in_ok-push_block_loops-in-If-2 : goal.push_loops-returns-in_ok-push_block_loops-in-If-2
push_loops-returns-in_ok-push_block_loops-in-If-2 t c =
    loops_of_if _ _ _ _ _ _ _ _ _ c.in-If.is c.as_slice.ensures c.as_slice-in-If.ensures c.in_ok-push_block_loops-in-If.ensures c.in_ok-push_block_loops-in-If-2.ensures

pub push_loops-returns-in_ok-push_block_loops-in-Repeat : goal.push_loops-returns-in_ok-push_block_loops-in-Repeat
push_loops-returns-in_ok-push_block_loops-in-Repeat t c =
    loops_of_repeat _ _ _ _ _ _ _ _ _ _ c.in-Repeat.is c.in_ok-push-in-Repeat.ensures.items c.in_ok-push-in-Repeat-2.ensures.items c.as_slice-in-Repeat.ensures
    c.in_ok-push_block_loops-in-Repeat.ensures

pub push_block_loops-loop-stmt-preserved : goal.push_block_loops-loop-stmt-preserved
push_block_loops-loop-stmt-preserved t c =
    loops_over _ _ _ _ _ _ c.loop-stmt-test.true c.stmt-item.is c.loop-stmt.invariant c.in_ok-push_loops.ensures
