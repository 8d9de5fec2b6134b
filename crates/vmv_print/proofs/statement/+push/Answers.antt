use Rattle.std.proofs.Common.{◌≡◌, ◌∙◌, FitsSigned, rules, w64, to_z, of_z}
use Rattle.std.proofs.lemmas.Int.{to_z-of_z}
use Rattle.vmv_print.proofs.Writing.{arith_printable, assert_printable, block_end, block_next, block_text_next, call_printable, if_printable, on_ok, repeat_printable, repeat_text, set_printable, on_ok_always}
use Rattle.vmv_print.proofs.statement.+push.Goals as goal

pub push_block-loop-stmt-preserved : goal.push_block-loop-stmt-preserved
push_block-loop-stmt-preserved t c = record {
  text = block_text_next c.args.indent.now _ _ _ c.args.block.now c.loop-stmt.stmt-index c.stmt-item.result c.loop-stmt-test.true c.stmt-item.is c.in_ok-push_stmt.ensures.text c.loop-stmt.invariant.text;
  written = block_next c.args.block.now c.loop-stmt.stmt-index c.stmt-item.result c.loop-stmt-test.true c.stmt-item.is c.in_ok-push_stmt.ensures.written c.loop-stmt.invariant.written;
}

pub push_block-returns-clause-written : goal.push_block-returns-clause-written
push_block-returns-clause-written t c = block_end c.args.block.now c.loop-stmt.stmt-index c.loop-stmt-test.false c.loop-stmt.invariant.written

pub push_stmt-returns-in-Set-clause-written : goal.push_stmt-returns-in-Set-clause-written
push_stmt-returns-in-Set-clause-written t c =
    on_ok c.push_set.result (set_printable c.args.stmt.now _ _ c.in-Set.is) c.push_set.ensures.written

pub push_stmt-returns-in-Arith-clause-written : goal.push_stmt-returns-in-Arith-clause-written
push_stmt-returns-in-Arith-clause-written t c =
    on_ok c.push_arith.result (arith_printable c.args.stmt.now _ _ _ _ c.in-Arith.is) c.push_arith.ensures.written

pub push_stmt-returns-in-Call-clause-written : goal.push_stmt-returns-in-Call-clause-written
push_stmt-returns-in-Call-clause-written t c =
    on_ok c.push_call.result (call_printable c.args.stmt.now _ _ _ _ c.in-Call.is c.as_slice.ensures) c.push_call.ensures.written

pub push_stmt-returns-in-Assert-clause-written : goal.push_stmt-returns-in-Assert-clause-written
push_stmt-returns-in-Assert-clause-written t c =
    on_ok c.push_assert.result (assert_printable c.args.stmt.now _ c.in-Assert.is) c.push_assert.ensures.written

pub push_stmt-returns-in_ok-push_block-in-If-2-clause-written : goal.push_stmt-returns-in_ok-push_block-in-If-2-clause-written
push_stmt-returns-in_ok-push_block-in-If-2-clause-written t c =
    on_ok_always c.push_close.result
    (if_printable c.args.stmt.now _ _ _ _ _ c.in-If.is c.as_slice-in-If.ensures c.as_slice-in-If-3.ensures c.in_ok-push_if-in-If.ensures.written c.in_ok-push_block-in-If.ensures.written c.in_ok-push_block-in-If-2.ensures.written)

pub push_stmt-returns-in_ok-push_block-in-Repeat-clause-text : goal.push_stmt-returns-in_ok-push_block-in-Repeat-clause-text
push_stmt-returns-in_ok-push_block-in-Repeat-clause-text t c =
    let fits : FitsSigned w64 c.in-Repeat.cap = search rules in
    let is : to_z w64 (of_z w64 c.in-Repeat.cap) ≡ c.in-Repeat.cap = to_z-of_z w64 c.in-Repeat.cap fits in
    on_ok c.push_close-in-Repeat.result
    (repeat_text c.args.stmt.now _ _ _ _ _ c.args.indent.now _ c.args.out.now.items _ _ _ c.in-Repeat.is c.as_slice-in-Repeat.ensures (c.deref-in-Repeat.ensures.value ∙ c.in_ok-inner-in-Repeat.ensures) (rw is at c.in_ok-push_repeat-in-Repeat.ensures.text) c.in_ok-push_block-in-Repeat.ensures.text)
    c.push_close-in-Repeat.ensures

pub push_stmt-returns-in_ok-push_block-in-Repeat-clause-written : goal.push_stmt-returns-in_ok-push_block-in-Repeat-clause-written
push_stmt-returns-in_ok-push_block-in-Repeat-clause-written t c =
    on_ok_always c.push_close-in-Repeat.result
    (repeat_printable c.args.stmt.now _ _ _ _ _ c.in-Repeat.is c.as_slice-in-Repeat.ensures c.in_ok-push_repeat-in-Repeat.ensures.written c.in_ok-push_block-in-Repeat.ensures.written)
