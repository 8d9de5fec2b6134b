use Rattle.std.proofs.Common.{refl, sym}
use Rattle.vmv_back.proofs.Found.{found_in_plain, found_in_help, found_in_parts, found_in_both, found_in_loop, found_next, found_end, with_part_empty}
use Rattle.vmv_back.proofs.apart.+walk.Goals as goal

pub keep_in-returns-in_ok-keep_simple-in-Plain : goal.keep_in-returns-in_ok-keep_simple-in-Plain
keep_in-returns-in_ok-keep_simple-in-Plain t c = found_in_plain _ _ _ _ _ _ c.in-Plain.is c.in_ok-keep_simple-in-Plain.ensures

pub keep_in-returns-in-Help : goal.keep_in-returns-in-Help
keep_in-returns-in-Help t c = found_in_help _ _ _ _ _ _ _ _ c.in-Help.is refl

pub keep_in-returns-in_ok-keep_in_part-in-Some-2 : goal.keep_in-returns-in_ok-keep_in_part-in-Some-2
keep_in-returns-in_ok-keep_in_part-in-Some-2 t c =
    found_in_parts _ _ _ _ _ _ _ _ _ _ _ _ _ _ _ c.in-If.is c.as_slice.ensures c.as_slice-in-Some.ensures (sym c.in-Some.ensures) c.negation-negation.ensures
    c.in_ok-keep_part-in-Some.ensures c.in_ok-keep_part-in-Some-2.ensures c.in_ok-keep_in_part-in-Some.ensures c.in_ok-keep_in_part-in-Some-2.ensures

pub keep_in-returns-in_ok-keep_inside-in-None-2 : goal.keep_in-returns-in_ok-keep_inside-in-None-2
keep_in-returns-in_ok-keep_inside-in-None-2 t c =
    found_in_both _ _ _ _ _ _ _ _ _ _ _ c.in-If.is c.as_slice-in-None.ensures c.as_slice-in-None-2.ensures (sym c.in-None.ensures)
    c.in_ok-keep_inside-in-None.ensures c.in_ok-keep_inside-in-None-2.ensures

pub keep_in-returns-in_ok-keep_inside-in-Repeat : goal.keep_in-returns-in_ok-keep_inside-in-Repeat
keep_in-returns-in_ok-keep_inside-in-Repeat t c =
    found_in_loop _ _ _ _ _ _ _ _ c.in-Repeat.is c.as_slice-in-Repeat.ensures c.in_ok-keep_over_cap-in-Repeat.ensures c.in_ok-keep_inside-in-Repeat.ensures

pub keep_in_part-returns-in_default : goal.keep_in_part-returns-in_default
keep_in_part-returns-in_default t c = with_part_empty _ _ _ _ c.in_default.ensures

pub keep_inside-loop-stmt-preserved : goal.keep_inside-loop-stmt-preserved
keep_inside-loop-stmt-preserved t c =
    found_next _ _ _ _ _ _ _ _ c.loop-stmt-test.true c.stmt-item.is c.loop-stmt.invariant c.in_ok-keep_in.ensures

pub keep_inside-returns : goal.keep_inside-returns
keep_inside-returns t c = found_end _ _ _ _ _ _ c.loop-stmt-test.false c.loop-stmt.invariant
