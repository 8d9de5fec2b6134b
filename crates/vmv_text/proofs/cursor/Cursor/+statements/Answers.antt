use Rattle.std.proofs.Common.{ap, Some, None, arith, ◌≡◌, ◌≤◌, ◌+◌, ◌-◌, ℕ, ℤ, subst, sym, refl, ◌∙◌}
use Rattle.std.proofs.lemmas.Result.{err_from_is_err_and}
use Rattle.vmv_tree.specs.declared.tree.Operand.{Operand}
use Rattle.vmv_tree.specs.declared.tree.Test.{Test}
use Rattle.vmv_tree.specs.declared.name.Name.{Name}
use Rattle.vmv_tree.specs.Limits.{block_nesting}
use Rattle.vmv_tree.specs.Tree.{Stmt, Block, []}
use Rattle.vmv_text.specs.declared.part.BlockPart.TheVariants as part
use Rattle.vmv_text.specs.declared.token.Token.TheVariants.{Named, AssertWord, IfWord, RepeatWord, OpenBrace, CloseBrace}
use Rattle.vmv_text.specs.Grammar.{IsTest, IsStmt}
use Rattle.vmv_text.specs.Symbols.{as_token}
use Rattle.vmv_text.specs.Reading.{Any, NoElse, IsToken, IsTurns, IsBehind, StmtsTo, IsBlock, IsElse, ReadsWith, first_of}
use Rattle.vmv_text.specs.Sizes.{HasSizes, IsBlockPart, IsStmtPart}
use Rattle.vmv_text.proofs.Steps.{step, failed, failed_last, carried_with, closed_with, shorter_with, open_then}
use Rattle.vmv_text.proofs.Blocks.{block-parts, open_block, open_stmts, else-block, else-absent, open_else, widened, choice-parts, repetition-parts, stmt-behind, stmt_stops, part_start, part_end, part_more, reached_failed}
use Rattle.vmv_text.proofs.cursor.Cursor.+statements.Goals as goal

pub block-returns-in_err-expect : goal.block-returns-in_err-expect
block-returns-in_err-expect t c =
    let p = err_from_is_err_and c.from_residual.result c.from_residual.ensures.1 in
    rw (p.1, p.2)
    (failed _ (IsToken OpenBrace) _ Any Any _ (λ (x : Unit {0}). x) (λ (b : Block). b) c.in_err-expect.field-0.0 _ _ c.expect.new.self
    (block-parts _)
    c.in_err-expect.ensures.reads (λ y q rest ok k. tt)
    (open_stmts CloseBrace))

pub block-returns-in_err-sizes : goal.block-returns-in_err-sizes
block-returns-in_err-sizes t c =
    let p = err_from_is_err_and c.from_residual-in_err-sizes.result c.from_residual-in_err-sizes.ensures.1 in
    rw (p.1, p.2)
    (failed_last _ (StmtsTo CloseBrace) Any _ (λ (b : Block). b) (λ (b : Block). b) c.in_err-sizes.field-0.0 _ _ c.flat.new.self
    (step _ _ _ Any Any _ tt _ _ _ (block-parts _) c.in_ok-expect.ensures.reads (λ y q rest ok k. tt))
    c.in_err-sizes.ensures.reads)

pub block-returns-then-room-eq0 : goal.block-returns-then-room-eq0
block-returns-then-room-eq0 t c =
    closed_with IsBlock (StmtsTo CloseBrace) Any (λ (b : Block). b) HasSizes (IsBlockPart c.args.room) c.in_ok-sizes.sizes (part.Deep c.in_ok-sizes.sizes) _ _ c.flat.new.self
    (step _ _ _ Any Any _ tt _ _ _ (block-parts _) c.in_ok-expect.ensures.reads (λ y q rest ok k. tt))
    c.in_ok-sizes.ensures.reads (λ x h. let low : c.args.room ≤ block_nesting x = omega arith in (h, low))

pub block-returns : goal.block-returns
block-returns t c =
    let room : c.args.room - 1 + 1 ≡ c.args.room = omega arith in
    carried_with (IsBlockPart c.args.room) IsBlock (StmtsTo CloseBrace) Any c.statements.result _ _ c.statements.new.self
    (step _ _ _ Any Any _ tt _ _ _ (block-parts _) c.in_ok-expect.ensures.reads (λ y q rest ok k. tt))
    (subst (λ n. ReadsWith (IsBlockPart n) (StmtsTo CloseBrace) Any c.statements.result c.expect.new.self c.statements.new.self) room c.statements.ensures)

pub choice-returns-in_err-test : goal.choice-returns-in_err-test
choice-returns-in_err-test t c =
    let p = err_from_is_err_and c.from_residual.result c.from_residual.ensures.1 in
    rw (p.1, p.2)
    (failed _ IsTest _ NoElse Any _ (λ (x : Test). x) (λ (s : Stmt). s) c.in_err-test.field-0.0 _ _ c.test.new.self
    (choice-parts _)
    c.in_err-test.ensures (λ y q rest ok k. tt)
    (open_then _ _ open_block open_else))

pub choice-returns-in_err-first : goal.choice-returns-in_err-first
choice-returns-in_err-first t c =
    let p = err_from_is_err_and c.from_residual-in_err-first.result c.from_residual-in_err-first.ensures.1 in
    rw (p.1, p.2)
    (failed _ IsBlock _ NoElse Any _ (λ (b : Block). b) (λ (s : Stmt). s) c.in_err-first.field-0.0 _ _ c.block.new.self
    (step _ _ _ NoElse Any _ c.in_ok-test.test _ _ _
    (choice-parts _)
    c.in_ok-test.ensures (λ y q rest ok k. tt))
    c.in_err-first.ensures (λ y q rest ok k. tt)
    open_else)

pub choice-returns-in_err-second : goal.choice-returns-in_err-second
choice-returns-in_err-second t c =
    let p = err_from_is_err_and c.from_residual-in_err-second.result c.from_residual-in_err-second.ensures.1 in
    rw (p.1, p.2)
    (failed_last _ IsElse NoElse _ (λ (b : Block). b) (λ (s : Stmt). s) c.in_err-second.field-0.0 _ _ c.else_part.new.self
    (step _ _ _ NoElse Any _ c.in_ok-first.ensures.0 _ _ _
    (step _ _ _ NoElse Any _ c.in_ok-test.test _ _ _
    (choice-parts _)
    c.in_ok-test.ensures (λ y q rest ok k. tt))
    c.in_ok-first.ensures.2 (λ y q rest ok k. tt))
    c.in_err-second.ensures)

pub choice-returns : goal.choice-returns
choice-returns t c =
    closed_with _ IsElse NoElse _ (IsBlockPart c.args.room) (IsStmtPart (c.args.room + 1)) c.in_ok-second.second c.chosen.result _ _ c.else_part.new.self
    (step _ _ _ NoElse Any _ c.in_ok-first.ensures.0 _ _ _
    (step _ _ _ NoElse Any _ c.in_ok-test.test _ _ _
    (choice-parts _)
    c.in_ok-test.ensures (λ y q rest ok k. tt))
    c.in_ok-first.ensures.2 (λ y q rest ok k. tt))
    c.in_ok-second.ensures (λ y h. c.chosen.ensures c.args.room c.in_ok-first.ensures.0 y c.in_ok-first.ensures.1 h)

pub else_part-returns-then-takes : goal.else_part-returns-then-takes
else_part-returns-then-takes t c =
    carried_with (IsBlockPart c.args.room) IsElse IsBlock NoElse c.block.result _ _ c.block.new.self (else-block _ _ c.if-takes.ensures.tests)
    (widened (IsBlockPart c.args.room) IsBlock c.block.result _ _ c.block.ensures)

pub else_part-returns : goal.else_part-returns
else_part-returns t c = rw c.new.ensures ([], refl, else-absent _ _ c.if-takes.ensures.tests)

pub repetition-returns-in_err-turns : goal.repetition-returns-in_err-turns
repetition-returns-in_err-turns t c =
    let p = err_from_is_err_and c.from_residual.result c.from_residual.ensures.1 in
    rw (p.1, p.2)
    (failed _ IsTurns _ Any Any _ (λ (x : Name × (Operand × ℤ)). x) (λ (s : Stmt). s) c.in_err-turns.field-0.0 _ _ c.turns.new.self
    (repetition-parts _)
    c.in_err-turns.ensures (λ y q rest ok k. tt)
    open_block)

pub repetition-returns-in_err-body : goal.repetition-returns-in_err-body
repetition-returns-in_err-body t c =
    let p = err_from_is_err_and c.from_residual-in_err-body.result c.from_residual-in_err-body.ensures.1 in
    rw (p.1, p.2)
    (failed_last _ IsBlock Any _ (λ (b : Block). b) (λ (s : Stmt). s) c.in_err-body.field-0.0 _ _ c.block.new.self
    (step _ _ _ Any Any _ c.in_ok-turns.turns _ _ _
    (repetition-parts _)
    c.in_ok-turns.ensures (λ y q rest ok k. tt))
    c.in_err-body.ensures)

pub repetition-returns : goal.repetition-returns
repetition-returns t c =
    closed_with _ IsBlock Any _ (IsBlockPart c.args.room) (IsStmtPart (c.args.room + 1)) c.in_ok-body.body c.repeated.result _ _ c.block.new.self
    (step _ _ _ Any Any _ c.in_ok-turns.turns _ _ _
    (repetition-parts _)
    c.in_ok-turns.ensures (λ y q rest ok k. tt))
    c.in_ok-body.ensures (λ y h. c.repeated.ensures c.args.room y h)

pub statement-returns-in_default-clause-reads : goal.statement-returns-in_default-clause-reads
statement-returns-in_default-clause-reads t c =
    let none : first_of c.args.self.now ≡ None = sym c.peek.ensures ∙ c.in_default.is in
    stmt_stops _ (λ x h. cc (none, h)) (λ h. cc (none, h)) (λ h. cc (none, h)) (λ h. cc (none, h))

pub statement-returns-in_default-first : goal.statement-returns-in_default-first
statement-returns-in_default-first t c =
    let some : first_of c.args.self.now ≡ Some c.in-Some.first = sym c.peek.ensures ∙ c.in-Some.is in
    record {
      reads = stmt_stops _ (λ x h. c.in_default-first.not-Named x (cc (some, h))) (λ h. c.in_default-first.not-AssertWord (cc (some, h))) (λ h. c.in_default-first.not-IfWord (cc (some, h))) (λ h. c.in_default-first.not-RepeatWord (cc (some, h)));
      shorter = tt;
    }

pub statement-returns-in-Named-clause-reads : goal.statement-returns-in-Named-clause-reads
statement-returns-in-Named-clause-reads t c =
    carried_with (IsStmtPart (c.args.room + 1)) IsStmt (IsBehind (Named c.in-Named.to)) NoElse c.set_part.result _ _ c.set_part.new.self
    (stmt-behind NoElse (Named c.in-Named.to) _ _ (sym c.peek.ensures ∙ (c.in-Some.is ∙ ap Some c.in-Named.is)) c.skip.ensures.exact)
    (widened (IsStmtPart (c.args.room + 1)) (IsBehind (Named c.in-Named.to)) c.set_part.result _ _ (c.set_part.ensures (c.args.room + 1)))

pub statement-returns-in-Named-clause-shorter : goal.statement-returns-in-Named-clause-shorter
statement-returns-in-Named-clause-shorter t c =
    shorter_with (IsStmtPart 0) (IsBehind (Named c.in-Named.to)) Any c.set_part.result (Named c.in-Named.to) c.args.self.now c.skip.new.self c.set_part.new.self (sym c.peek.ensures ∙ (c.in-Some.is ∙ ap Some c.in-Named.is)) c.skip.ensures.exact (c.set_part.ensures 0)

pub statement-returns-in-AssertWord-clause-reads : goal.statement-returns-in-AssertWord-clause-reads
statement-returns-in-AssertWord-clause-reads t c =
    carried_with (IsStmtPart (c.args.room + 1)) IsStmt (IsBehind AssertWord) NoElse c.assert_part.result _ _ c.assert_part.new.self
    (stmt-behind NoElse AssertWord _ _ (sym c.peek.ensures ∙ (c.in-Some.is ∙ ap Some c.in-AssertWord.is)) c.skip-in-AssertWord.ensures.exact)
    (widened (IsStmtPart (c.args.room + 1)) (IsBehind AssertWord) c.assert_part.result _ _ (c.assert_part.ensures (c.args.room + 1)))

pub statement-returns-in-AssertWord-clause-shorter : goal.statement-returns-in-AssertWord-clause-shorter
statement-returns-in-AssertWord-clause-shorter t c =
    shorter_with (IsStmtPart 0) (IsBehind AssertWord) Any c.assert_part.result AssertWord c.args.self.now c.skip-in-AssertWord.new.self c.assert_part.new.self (sym c.peek.ensures ∙ (c.in-Some.is ∙ ap Some c.in-AssertWord.is)) c.skip-in-AssertWord.ensures.exact (c.assert_part.ensures 0)

pub statement-returns-in-IfWord-clause-reads : goal.statement-returns-in-IfWord-clause-reads
statement-returns-in-IfWord-clause-reads t c =
    carried_with (IsStmtPart (c.args.room + 1)) IsStmt (IsBehind IfWord) NoElse c.choice.result _ _ c.choice.new.self
    (stmt-behind NoElse IfWord _ _ (sym c.peek.ensures ∙ (c.in-Some.is ∙ ap Some c.in-IfWord.is)) c.skip-in-IfWord.ensures.exact) c.choice.ensures

pub statement-returns-in-IfWord-clause-shorter : goal.statement-returns-in-IfWord-clause-shorter
statement-returns-in-IfWord-clause-shorter t c =
    shorter_with (IsStmtPart (c.args.room + 1)) (IsBehind IfWord) NoElse c.choice.result IfWord c.args.self.now c.skip-in-IfWord.new.self c.choice.new.self (sym c.peek.ensures ∙ (c.in-Some.is ∙ ap Some c.in-IfWord.is)) c.skip-in-IfWord.ensures.exact c.choice.ensures

pub statement-returns-in-RepeatWord-clause-reads : goal.statement-returns-in-RepeatWord-clause-reads
statement-returns-in-RepeatWord-clause-reads t c =
    carried_with (IsStmtPart (c.args.room + 1)) IsStmt (IsBehind RepeatWord) NoElse c.repetition.result _ _ c.repetition.new.self
    (stmt-behind NoElse RepeatWord _ _ (sym c.peek.ensures ∙ (c.in-Some.is ∙ ap Some c.in-RepeatWord.is)) c.skip-in-RepeatWord.ensures.exact)
    (widened (IsStmtPart (c.args.room + 1)) (IsBehind RepeatWord) c.repetition.result _ _ c.repetition.ensures)

pub statement-returns-in-RepeatWord-clause-shorter : goal.statement-returns-in-RepeatWord-clause-shorter
statement-returns-in-RepeatWord-clause-shorter t c =
    shorter_with (IsStmtPart (c.args.room + 1)) (IsBehind RepeatWord) Any c.repetition.result RepeatWord c.args.self.now c.skip-in-RepeatWord.new.self c.repetition.new.self (sym c.peek.ensures ∙ (c.in-Some.is ∙ ap Some c.in-RepeatWord.is)) c.skip-in-RepeatWord.ensures.exact c.repetition.ensures

pub statements-returns-then-takes : goal.statements-returns-then-takes
statements-returns-then-takes t c =
    part_end (c.args.room + 1) (as_token c.args.last) c.requires _ _ _ _ c.loop-alloc.invariant.reached c.if-takes.ensures.tests

pub statements-returns-in_err-stmt : goal.statements-returns-in_err-stmt
statements-returns-in_err-stmt t c =
    let p = err_from_is_err_and c.from_residual.result c.from_residual.ensures.1 in
    rw (p.1, p.2)
    (reached_failed (as_token c.args.last) c.requires c.in_err-stmt.field-0.0 _ _ _ _ c.statement.new.self c.loop-alloc.invariant.reached.reached c.if-takes.ensures.tests c.in_err-stmt.ensures.reads)

pub statements-loop-alloc-init : goal.statements-loop-alloc-init
statements-loop-alloc-init t c = record { reached = part_start (c.args.room + 1) (as_token c.args.last) _ _ c.new.ensures; within = omega arith }

pub statements-loop-alloc-preserved : goal.statements-loop-alloc-preserved
statements-loop-alloc-preserved t c = record {
  reached = part_more (c.args.room + 1) (as_token c.args.last) c.requires _ _ _ c.in_ok-stmt.stmt _ _ _ c.loop-alloc.invariant.reached c.if-takes.ensures.tests c.in_ok-stmt.ensures.reads c.in_ok-block.ensures;
  within = omega (arith, c.loop-alloc.invariant.within, c.in_ok-stmt.ensures.shorter, c.takes.ensures.within);
}
