use Rattle.std.proofs.lemmas.Result.{on_ok_weaker}
use Rattle.vmv_demands.proofs.Holding.{lost_plain, lost_help, lost_if, lost_repeat, rests_next, rests_end}
use Rattle.vmv_demands.proofs.lost.+lost.Goals as goal

pub lose-returns-in-Plain : goal.lose-returns-in-Plain
lose-returns-in-Plain t c = on_ok_weaker c.lose_simple.result (lost_plain _ c.args.sources.now _ _ _ c.in-Plain.is) c.lose_simple.ensures

pub lose-returns-in-Help : goal.lose-returns-in-Help
lose-returns-in-Help t c = on_ok_weaker c.put.result (lost_help _ c.args.sources.now _ _ _ _ _ c.in-Help.is) c.put.ensures

pub lose-returns-in_ok-lose_all-in-If : goal.lose-returns-in_ok-lose_all-in-If
lose-returns-in_ok-lose_all-in-If t c =
    on_ok_weaker c.lose_all-in-If.result (lost_if _ _ _ _ _ _ _ _ _ c.in-If.is c.as_slice.ensures c.as_slice-in-If.ensures c.in_ok-lose_all-in-If.ensures) c.lose_all-in-If.ensures

pub lose-returns-in_ok-put-in-Repeat : goal.lose-returns-in_ok-put-in-Repeat
lose-returns-in_ok-put-in-Repeat t c =
    on_ok_weaker c.lose_all-in-Repeat.result (lost_repeat _ _ _ _ _ _ c.in-Repeat.is c.as_slice-in-Repeat.ensures c.in_ok-put-in-Repeat.ensures) c.lose_all-in-Repeat.ensures

pub lose_all-loop-stmt-preserved : goal.lose_all-loop-stmt-preserved
lose_all-loop-stmt-preserved t c = rests_next _ _ _ _ _ _ c.loop-stmt-test.true c.stmt-item.is c.loop-stmt.invariant c.in_ok-lose.ensures

pub lose_all-returns : goal.lose_all-returns
lose_all-returns t c = rests_end _ _ _ _ c.loop-stmt-test.false c.loop-stmt.invariant
