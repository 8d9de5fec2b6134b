use Rattle.std.proofs.Common.{List, subst, sym}
use Rattle.std.proofs.lemmas.Result.{err_from_is_err_and}
use Rattle.vmv_tree.specs.declared.tree.Operand.{Operand}
use Rattle.vmv_tree.specs.View.{stmt_of, stmt_of-call}
use Rattle.vmv_text.specs.declared.token.Token.TheVariants.{Semicolon}
use Rattle.vmv_text.specs.Grammar.{IsOperand}
use Rattle.vmv_text.specs.Reading.{Any, IsToken, IsCall, Listed, Ends}
use Rattle.vmv_text.proofs.Steps.{step, failed, failed_last, done, open_token}
use Rattle.vmv_text.proofs.Assignments.{call-parts}
use Rattle.vmv_text.proofs.cursor.Cursor.call.Goals as goal

pub returns-in_err-args : goal.returns-in_err-args
returns-in_err-args c =
    let p = err_from_is_err_and c.from_residual.result c.from_residual.ensures.1 in
    rw (p.1, p.2)
    (failed _ (Listed IsOperand) _ Any Any _ (λ (x : List Operand). x) stmt_of c.in_err-args.field-0.0 _ _ c.operands.new.self
    (call-parts c.args.to c.args.callee _)
    c.in_err-args.ensures (λ y q rest ok k. tt)
    (open_token Semicolon))

pub returns-in_err-expect : goal.returns-in_err-expect
returns-in_err-expect c =
    let p = err_from_is_err_and c.from_residual-in_err-expect.result c.from_residual-in_err-expect.ensures.1 in
    rw (p.1, p.2)
    (failed_last _ (IsToken Semicolon) Any _ (λ (x : Unit {0}). x) stmt_of c.in_err-expect.field-0.0 _ _ c.expect.new.self
    (step _ _ _ Any Any _ c.in_ok-args.args _ _ _
    (call-parts c.args.to c.args.callee _)
    c.in_ok-args.ensures (λ y q rest ok k. tt))
    c.in_err-expect.ensures.reads)

pub returns : goal.returns
returns c =
    subst (λ s. Ends (IsCall c.args.to c.args.callee) Any s c.args.self.now c.expect.new.self) (sym (stmt_of-call c.args.to c.args.callee c.in_ok-args.args))
    (done _ _ Any _ tt _ _ _
    (step _ _ _ Any Any _ c.in_ok-args.args _ _ _
    (call-parts c.args.to c.args.callee _)
    c.in_ok-args.ensures (λ y q rest ok k. tt))
    c.in_ok-expect.ensures.reads)
