use Rattle.std.proofs.Common.{rules, ◌≡◌, ℕ, ◌+◌, ◌-◌, ◌*◌, suc, true, false, List, ℤ, pos, length, map, arith, sym, ap, subst, ◌∙◌, w64, refl}
use Rattle.std.specs.Prelude.{FitsSigned, slice_set, int_lt}
use Rattle.std.proofs.Common.{to_z}
use Rattle.std.proofs.lemmas.Int.{to_z-of_z}
use Rattle.vmv_snapshot.specs.View.{stmt_of, block_of, code_of}
use Rattle.vmv_snapshot.specs.Resolution.{tree_of}
use Rattle.vmv_snapshot.specs.declared.code.CodeStmt.{CodeStmt}
use Rattle.vmv_snapshot.specs.Code.{plain, help, branch, loop}
use Rattle.vmv_tree.specs.Run.{turns_of}
use Rattle.vmv_run.specs.declared.walked.Walked.TheVariants.{Next, Fail, Stopped}
use Rattle.vmv_run.specs.Walk.{size, block_size, budget, word_in, start_frame, Walks, WalksAll}
use Rattle.vmv_run.proofs.Rules.{Turning, walks_help, walks_help_failed, walks_help_left, walks_first, walks_second, walks_above, turning_start, turning_next, turning_stop, turning_end}
use Rattle.vmv_run.proofs.Procedures.{proc_done, proc_failed, proc_left}
use Rattle.vmv_run.proofs.Sizes.{loop_of, code_below, turn_walks, row_begun, item_part, row_more, row_stopped, row_over, help_below, first_below, second_below, body_below, falls_help, falls_first, falls_second, falls_repeat, falls_proc, as_stmt, as_plain, as_help, as_if, as_repeat}
use Rattle.vmv_run.proofs.walk.+walk.Goals as goal

pub walk_block-loop-stmt-init : goal.walk_block-loop-stmt-init
walk_block-loop-stmt-init t c = row_begun (tree_of c.args.snapshot.now) c.args.proc.0 c.args.block.now c.args.frame.now c.args.source.now

pub walk_block-walk_stmt-requires : goal.walk_block-walk_stmt-requires
walk_block-walk_stmt-requires t c =
    let d : budget c.args.snapshot.now.codes c.args.proc.0 + 3 * block_size (block_of c.args.block.now) + 1 ≡ t = c.decreases in
    let h = item_part (tree_of c.args.snapshot.now) c.args.snapshot.now.codes t c.args.proc.0 c.args.block.now c.loop-stmt.stmt-index c.args.frame.now c.loop-stmt.frame c.args.source.now c.loop-stmt.source c.stmt-item.result c.loop-stmt-test.true c.stmt-item.is c.loop-stmt.invariant c.requires.calls d in
    (h.0, (c.requires.proc, h.1))

pub walk_block-returns-in_default : goal.walk_block-returns-in_default
walk_block-returns-in_default t c =
    row_stopped (tree_of c.args.snapshot.now) c.args.proc.0 c.args.block.now c.loop-stmt.stmt-index c.args.frame.now c.loop-stmt.frame c.walk_stmt.new.frame c.args.source.now c.loop-stmt.source c.walk_stmt.new.source c.stmt-item.result _
    c.in_default.not-Next c.loop-stmt-test.true c.stmt-item.is c.loop-stmt.invariant c.walk_stmt.ensures

pub walk_block-loop-stmt-preserved : goal.walk_block-loop-stmt-preserved
walk_block-loop-stmt-preserved t c =
    row_more (tree_of c.args.snapshot.now) c.args.proc.0 c.args.block.now c.loop-stmt.stmt-index c.args.frame.now c.loop-stmt.frame c.walk_stmt.new.frame c.args.source.now c.loop-stmt.source c.walk_stmt.new.source c.stmt-item.result
    c.loop-stmt-test.true c.stmt-item.is c.loop-stmt.invariant (rw c.in-Next.is at c.walk_stmt.ensures)

pub walk_block-returns : goal.walk_block-returns
walk_block-returns t c =
    row_over (tree_of c.args.snapshot.now) c.args.proc.0 c.args.block.now c.loop-stmt.stmt-index c.args.frame.now c.loop-stmt.frame c.args.source.now c.loop-stmt.source c.loop-stmt-test.false c.loop-stmt.invariant

pub walk_proc-walk_block-requires : goal.walk_proc-walk_block-requires
walk_proc-walk_block-requires t c =
    let d : budget c.args.snapshot.now.codes (c.args.proc.0 + 1) ≡ t = c.decreases in (
      falls_proc c.args.snapshot.now.codes t c.args.proc.0 c.code-code.result.now c.as_slice.result.now c.code-code.ensures.kept c.as_slice.ensures d,
      (c.requires, code_below (tree_of c.args.snapshot.now) c.args.proc.0 c.code-code.result.now c.as_slice.result.now c.as_slice.ensures c.code-code.ensures.resolved),
    )

pub walk_proc-returns-in-Next : goal.walk_proc-returns-in-Next
walk_proc-returns-in-Next t c =
    let fits : FitsSigned w64 c.value.result = search rules in
    proc_done (tree_of c.args.snapshot.now) c.args.proc.0 (code_of c.code-code.result.now) c.args.own c.walk_block.new.frame c.args.source.now c.walk_block.new.source _ c.code-code.ensures.resolved c.walk_block.array_long
    (to_z-of_z w64 _ fits ∙ c.value.ensures)
    (subst (λ (b : List CodeStmt). WalksAll (tree_of c.args.snapshot.now) c.args.proc.0 (block_of b) c.args.own c.walk_block.new.frame c.args.source.now c.walk_block.new.source Next) c.as_slice.ensures
    (rw c.in-Next.is at c.walk_block.ensures))

pub walk_proc-returns-in-Fail : goal.walk_proc-returns-in-Fail
walk_proc-returns-in-Fail t c =
    proc_failed (tree_of c.args.snapshot.now) c.args.proc.0 (code_of c.code-code.result.now) c.args.own c.walk_block.new.frame c.args.source.now c.walk_block.new.source c.in-Fail.site c.code-code.ensures.resolved
    (subst (λ (b : List CodeStmt). WalksAll (tree_of c.args.snapshot.now) c.args.proc.0 (block_of b) c.args.own c.walk_block.new.frame c.args.source.now c.walk_block.new.source (Fail c.in-Fail.site)) c.as_slice.ensures
    (rw c.in-Fail.is at c.walk_block.ensures))

pub walk_proc-returns-in-Stopped : goal.walk_proc-returns-in-Stopped
walk_proc-returns-in-Stopped t c =
    proc_left (tree_of c.args.snapshot.now) c.args.proc.0 (code_of c.code-code.result.now) c.args.own c.walk_block.new.frame c.args.source.now c.walk_block.new.source c.code-code.ensures.resolved
    (subst (λ (b : List CodeStmt). WalksAll (tree_of c.args.snapshot.now) c.args.proc.0 (block_of b) c.args.own c.walk_block.new.frame c.args.source.now c.walk_block.new.source Stopped) c.as_slice.ensures
    (rw c.in-Stopped.is at c.walk_block.ensures))

pub walk_repeat-returns-then-bound-repeat : goal.walk_repeat-returns-then-bound-repeat
walk_repeat-returns-then-bound-repeat t c =
    let r = c.args.repeat.now in
    let long : length c.args.frame.now ≡ 256 = search rules in
    let fits : FitsSigned w64 c.value-bound.result = search rules in
    let cap_fits : FitsSigned w64 r.cap = search rules in
    let over : int_lt r.cap c.value-bound.result ≡ true = (λ i. int_lt (sym (to_z-of_z w64 r.cap cap_fits) i) (sym (to_z-of_z w64 c.value-bound.result fits) i)) ∙ c.if-bound-repeat.true in
    walks_above (tree_of c.args.snapshot.now) c.args.proc r.index r.slot r.bound r.cap r.site (block_of r.body) c.args.frame.now c.args.source.now c.value-bound.result long c.value-bound.ensures over

pub walk_repeat-loop-i-init : goal.walk_repeat-loop-i-init
walk_repeat-loop-i-init t c =
    let r = c.args.repeat.now in
    let long : length c.args.frame.now ≡ 256 = search rules in
    let fits : FitsSigned w64 c.value-bound.result = search rules in
    let same = to_z-of_z w64 c.value-bound.result fits in
    let cap_fits : FitsSigned w64 r.cap = search rules in
    let under : int_lt r.cap c.value-bound.result ≡ false = (λ i. int_lt (sym (to_z-of_z w64 r.cap cap_fits) i) (sym same i)) ∙ c.if-bound-repeat.false in
    let count : c.turns_of-i-end.result ≡ turns_of c.value-bound.result = c.turns_of-i-end.ensures ∙ ap turns_of same in
    let left : turns_of c.value-bound.result ≡ c.turns_of-i-end.result - 0 = omega arith in
    record {
      long = long;
      turning = subst (λ n. Turning (tree_of c.args.snapshot.now) c.args.proc.0 (loop r.index r.slot r.bound r.cap r.site (block_of r.body)) c.args.frame.now c.args.frame.now c.args.source.now c.args.source.now 0 n) left
          (turning_start (tree_of c.args.snapshot.now) c.args.proc r.index r.slot r.bound r.cap r.site (block_of r.body) c.args.frame.now c.args.source.now c.value-bound.result long c.value-bound.ensures under);
    }

pub walk_repeat-returns-in_default : goal.walk_repeat-returns-in_default
walk_repeat-returns-in_default t c =
    let r = c.args.repeat.now in
    let m : ℕ = c.turns_of-i-end.result - (c.loop-i.i + 1) in
    let left : c.turns_of-i-end.result - c.loop-i.i ≡ suc m = omega arith in
    let at : to_z w64 c.loop-i.i ≡ pos c.loop-i.i = search rules in
    turning_stop (tree_of c.args.snapshot.now) c.args.proc r.index r.slot r.bound r.cap r.site (block_of r.body) c.args.frame.now c.loop-i.frame c.walk_block.new.frame c.args.source.now c.loop-i.source c.walk_block.new.source
    c.loop-i.i m c.walk_block.result c.in_default.not-Next c.loop-i.invariant.long
    (subst (λ n. Turning (tree_of c.args.snapshot.now) c.args.proc.0 (loop r.index r.slot r.bound r.cap r.site (block_of r.body)) c.args.frame.now c.loop-i.frame c.args.source.now c.loop-i.source c.loop-i.i n) left c.loop-i.invariant.turning)
    (turn_walks (tree_of c.args.snapshot.now) c.args.proc.0 r.body c.as_slice.result.now c.loop-i.frame c.walk_block.new.frame r.index.0 (to_z w64 c.loop-i.i) (pos c.loop-i.i) c.loop-i.source c.walk_block.new.source c.walk_block.result c.as_slice.ensures at
    c.walk_block.ensures)

pub walk_repeat-loop-i-preserved : goal.walk_repeat-loop-i-preserved
walk_repeat-loop-i-preserved t c =
    let r = c.args.repeat.now in
    let m : ℕ = c.turns_of-i-end.result - (c.loop-i.i + 1) in
    let left : c.turns_of-i-end.result - c.loop-i.i ≡ suc m = omega arith in
    let at : to_z w64 c.loop-i.i ≡ pos c.loop-i.i = search rules in
    record {
      long = c.walk_block.array_long;
      turning = turning_next (tree_of c.args.snapshot.now) c.args.proc r.index r.slot r.bound r.cap r.site (block_of r.body) c.args.frame.now c.loop-i.frame c.walk_block.new.frame c.args.source.now c.loop-i.source c.walk_block.new.source
          c.loop-i.i m c.loop-i.invariant.long
          (subst (λ n. Turning (tree_of c.args.snapshot.now) c.args.proc.0 (loop r.index r.slot r.bound r.cap r.site (block_of r.body)) c.args.frame.now c.loop-i.frame c.args.source.now c.loop-i.source c.loop-i.i n) left c.loop-i.invariant.turning)
          (turn_walks (tree_of c.args.snapshot.now) c.args.proc.0 r.body c.as_slice.result.now c.loop-i.frame c.walk_block.new.frame r.index.0 (to_z w64 c.loop-i.i) (pos c.loop-i.i) c.loop-i.source c.walk_block.new.source Next c.as_slice.ensures at
          (rw c.in-Next.is at c.walk_block.ensures));
    }

pub walk_repeat-returns : goal.walk_repeat-returns
walk_repeat-returns t c =
    let r = c.args.repeat.now in
    let left : c.turns_of-i-end.result - c.loop-i.i ≡ 0 = omega arith in
    turning_end (tree_of c.args.snapshot.now) c.args.proc r.index r.slot r.bound r.cap r.site (block_of r.body) c.args.frame.now c.loop-i.frame c.args.source.now c.loop-i.source c.loop-i.i
    (subst (λ n. Turning (tree_of c.args.snapshot.now) c.args.proc.0 (loop r.index r.slot r.bound r.cap r.site (block_of r.body)) c.args.frame.now c.loop-i.frame c.args.source.now c.loop-i.source c.loop-i.i n) left c.loop-i.invariant.turning)

pub walk_stmt-params-requires : goal.walk_stmt-params-requires
walk_stmt-params-requires t c =
    let below = help_below c.args.proc.0 c.args.stmt.now c.in-Help.to c.in-Help.callee c.in-Help.args c.in-Help.is c.requires.calls in
    let within = c.requires.proc in
    omega arith

pub walk_stmt-walk_proc-requires : goal.walk_stmt-walk_proc-requires
walk_stmt-walk_proc-requires t c =
    let d : budget c.args.snapshot.now.codes c.args.proc.0 + 3 * size (stmt_of c.args.stmt.now) ≡ t = c.decreases in
    let below = help_below c.args.proc.0 c.args.stmt.now c.in-Help.to c.in-Help.callee c.in-Help.args c.in-Help.is c.requires.calls in
    let within = c.requires.proc in
    (falls_help c.args.snapshot.now.codes t c.args.proc.0 c.args.stmt.now c.in-Help.to c.in-Help.callee c.in-Help.args c.in-Help.is below d, omega arith)

pub walk_stmt-walk_block-requires : goal.walk_stmt-walk_block-requires
walk_stmt-walk_block-requires t c =
    let d : budget c.args.snapshot.now.codes c.args.proc.0 + 3 * size (stmt_of c.args.stmt.now) ≡ t = c.decreases in (
      falls_first c.args.snapshot.now.codes t c.args.proc.0 c.args.stmt.now c.in-If.test c.in-If.first c.in-If.second c.as_slice-then-holds.result.now c.in-If.is c.as_slice-then-holds.ensures d,
      (c.requires.proc, first_below c.args.proc.0 c.args.stmt.now c.in-If.test c.in-If.first c.in-If.second c.as_slice-then-holds.result.now c.in-If.is c.as_slice-then-holds.ensures c.requires.calls),
    )

pub walk_stmt-walk_block-requires-else-holds : goal.walk_stmt-walk_block-requires-else-holds
walk_stmt-walk_block-requires-else-holds t c =
    let d : budget c.args.snapshot.now.codes c.args.proc.0 + 3 * size (stmt_of c.args.stmt.now) ≡ t = c.decreases in (
      falls_second c.args.snapshot.now.codes t c.args.proc.0 c.args.stmt.now c.in-If.test c.in-If.first c.in-If.second c.as_slice-else-holds.result.now c.in-If.is c.as_slice-else-holds.ensures d,
      (c.requires.proc, second_below c.args.proc.0 c.args.stmt.now c.in-If.test c.in-If.first c.in-If.second c.as_slice-else-holds.result.now c.in-If.is c.as_slice-else-holds.ensures c.requires.calls),
    )

pub walk_stmt-walk_repeat-requires : goal.walk_stmt-walk_repeat-requires
walk_stmt-walk_repeat-requires t c =
    let d : budget c.args.snapshot.now.codes c.args.proc.0 + 3 * size (stmt_of c.args.stmt.now) ≡ t = c.decreases in (
      falls_repeat c.args.snapshot.now.codes t c.args.proc.0 c.args.stmt.now c.in-Repeat.repeat c.in-Repeat.is d,
      (c.requires.proc, body_below c.args.proc.0 c.args.stmt.now c.in-Repeat.repeat c.in-Repeat.is c.requires.calls),
    )

pub walk_stmt-returns-in-Plain : goal.walk_stmt-returns-in-Plain
walk_stmt-returns-in-Plain t c =
    as_stmt (tree_of c.args.snapshot.now) c.args.proc.0 c.args.stmt.now (plain c.in-Plain.simple) c.args.frame.now c.walk_simple.new.frame c.args.source.now c.walk_simple.new.source c.walk_simple.result
    (as_plain c.args.stmt.now c.in-Plain.simple c.in-Plain.is) (c.walk_simple.ensures (tree_of c.args.snapshot.now))

pub walk_stmt-returns-in-Done : goal.walk_stmt-returns-in-Done
walk_stmt-returns-in-Done t c =
    let h = c.in-Help in
    let long : length c.args.frame.now ≡ 256 = search rules in
    let fits : FitsSigned w64 c.in-Done.word = search rules in
    let same = to_z-of_z w64 c.in-Done.word fits in
    let args : c.as_slice.result.now ≡ h.args = c.as_slice.ensures in
    let own : c.called_frame-own.result ≡ start_frame (length c.params.result.now) (map (word_in c.args.frame.now) h.args) =
    c.called_frame-own.ensures ∙ (λ i. start_frame (c.len-params.ensures i) (map (word_in c.args.frame.now) (args i))) in
    as_stmt (tree_of c.args.snapshot.now) c.args.proc.0 c.args.stmt.now (help h.to h.callee h.args) c.args.frame.now _ c.args.source.now c.walk_proc.new.source Next
    (as_help c.args.stmt.now h.to h.callee h.args h.is)
    (subst (λ (z : ℤ). Walks (tree_of c.args.snapshot.now) c.args.proc.0 (help h.to h.callee h.args) c.args.frame.now (slice_set c.args.frame.now h.to.0 z) c.args.source.now c.walk_proc.new.source Next) (sym same)
    (walks_help (tree_of c.args.snapshot.now) c.args.proc c.args.frame.now long h.to h.callee h.args c.params.result.now c.called_frame-own.result c.in-Done.word c.args.source.now c.walk_proc.new.source
    (rw c.in-Done.is at c.walk_proc.ensures) c.params.ensures own))

pub walk_stmt-returns-in-Fail : goal.walk_stmt-returns-in-Fail
walk_stmt-returns-in-Fail t c =
    let h = c.in-Help in
    let long : length c.args.frame.now ≡ 256 = search rules in
    let args : c.as_slice.result.now ≡ h.args = c.as_slice.ensures in
    let own : c.called_frame-own.result ≡ start_frame (length c.params.result.now) (map (word_in c.args.frame.now) h.args) =
    c.called_frame-own.ensures ∙ (λ i. start_frame (c.len-params.ensures i) (map (word_in c.args.frame.now) (args i))) in
    as_stmt (tree_of c.args.snapshot.now) c.args.proc.0 c.args.stmt.now (help h.to h.callee h.args) c.args.frame.now c.args.frame.now c.args.source.now c.walk_proc.new.source (Fail c.in-Fail.site)
    (as_help c.args.stmt.now h.to h.callee h.args h.is)
    (walks_help_failed (tree_of c.args.snapshot.now) c.args.proc c.args.frame.now long h.to h.callee h.args c.params.result.now c.called_frame-own.result c.in-Fail.site c.args.source.now c.walk_proc.new.source
    (rw c.in-Fail.is at c.walk_proc.ensures) c.params.ensures own)

pub walk_stmt-returns-in-Stopped : goal.walk_stmt-returns-in-Stopped
walk_stmt-returns-in-Stopped t c =
    let h = c.in-Help in
    let long : length c.args.frame.now ≡ 256 = search rules in
    let args : c.as_slice.result.now ≡ h.args = c.as_slice.ensures in
    let own : c.called_frame-own.result ≡ start_frame (length c.params.result.now) (map (word_in c.args.frame.now) h.args) =
    c.called_frame-own.ensures ∙ (λ i. start_frame (c.len-params.ensures i) (map (word_in c.args.frame.now) (args i))) in
    as_stmt (tree_of c.args.snapshot.now) c.args.proc.0 c.args.stmt.now (help h.to h.callee h.args) c.args.frame.now c.args.frame.now c.args.source.now c.walk_proc.new.source Stopped
    (as_help c.args.stmt.now h.to h.callee h.args h.is)
    (walks_help_left (tree_of c.args.snapshot.now) c.args.proc c.args.frame.now long h.to h.callee h.args c.params.result.now c.called_frame-own.result c.args.source.now c.walk_proc.new.source
    (rw c.in-Stopped.is at c.walk_proc.ensures) c.params.ensures own)

pub walk_stmt-returns-then-holds : goal.walk_stmt-returns-then-holds
walk_stmt-returns-then-holds t c =
    let h = c.in-If in
    let long : length c.args.frame.now ≡ 256 = search rules in
    as_stmt (tree_of c.args.snapshot.now) c.args.proc.0 c.args.stmt.now (branch h.test (block_of c.as_slice-then-holds.result.now) (block_of h.second)) c.args.frame.now c.walk_block.new.frame c.args.source.now c.walk_block.new.source c.walk_block.result
    (as_if c.args.stmt.now h.test h.first h.second c.as_slice-then-holds.result.now h.second h.is c.as_slice-then-holds.ensures refl)
    (walks_first (tree_of c.args.snapshot.now) c.args.proc c.args.frame.now long h.test (block_of c.as_slice-then-holds.result.now) (block_of h.second) c.walk_block.new.frame c.args.source.now c.walk_block.new.source c.walk_block.result
    (sym c.holds.ensures ∙ c.if-holds.true) c.walk_block.ensures)

pub walk_stmt-returns-else-holds : goal.walk_stmt-returns-else-holds
walk_stmt-returns-else-holds t c =
    let h = c.in-If in
    let long : length c.args.frame.now ≡ 256 = search rules in
    as_stmt (tree_of c.args.snapshot.now) c.args.proc.0 c.args.stmt.now (branch h.test (block_of h.first) (block_of c.as_slice-else-holds.result.now)) c.args.frame.now c.walk_block-else-holds.new.frame c.args.source.now
    c.walk_block-else-holds.new.source c.walk_block-else-holds.result
    (as_if c.args.stmt.now h.test h.first h.second h.first c.as_slice-else-holds.result.now h.is refl c.as_slice-else-holds.ensures)
    (walks_second (tree_of c.args.snapshot.now) c.args.proc c.args.frame.now long h.test (block_of h.first) (block_of c.as_slice-else-holds.result.now) c.walk_block-else-holds.new.frame c.args.source.now
    c.walk_block-else-holds.new.source c.walk_block-else-holds.result (sym c.holds.ensures ∙ c.if-holds.false) c.walk_block-else-holds.ensures)

pub walk_stmt-returns-in-Repeat : goal.walk_stmt-returns-in-Repeat
walk_stmt-returns-in-Repeat t c =
    as_stmt (tree_of c.args.snapshot.now) c.args.proc.0 c.args.stmt.now (loop_of c.in-Repeat.repeat) c.args.frame.now c.walk_repeat.new.frame c.args.source.now c.walk_repeat.new.source c.walk_repeat.result
    (as_repeat c.args.stmt.now c.in-Repeat.repeat c.in-Repeat.is) c.walk_repeat.ensures
