use Rattle.std.proofs.Common.{subst, sym}
use Rattle.std.proofs.lemmas.Result.{err_from_is_err_and}
use Rattle.vmv_tree.specs.declared.tree.Test.{Test}
use Rattle.vmv_tree.specs.View.{stmt_of, stmt_of-assert}
use Rattle.vmv_text.specs.declared.token.Token.TheVariants.{Semicolon, AssertWord}
use Rattle.vmv_text.specs.Grammar.{IsTest}
use Rattle.vmv_text.specs.Reading.{Any, IsToken, IsBehind, Ends}
use Rattle.vmv_text.proofs.Steps.{step, failed, failed_last, done, open_token}
use Rattle.vmv_text.proofs.Assignments.{assertion-parts}
use Rattle.vmv_text.proofs.cursor.Cursor.assertion.Goals as goal

pub returns-in_err-test : goal.returns-in_err-test
returns-in_err-test c =
    let p = err_from_is_err_and c.from_residual.result c.from_residual.ensures.1 in
    rw (p.1, p.2)
    (failed _ IsTest _ Any Any _ (λ (x : Test). x) stmt_of c.in_err-test.field-0.0 _ _ c.test.new.self
    (assertion-parts _)
    c.in_err-test.ensures (λ y q rest ok k. tt)
    (open_token Semicolon))

pub returns-in_err-expect : goal.returns-in_err-expect
returns-in_err-expect c =
    let p = err_from_is_err_and c.from_residual-in_err-expect.result c.from_residual-in_err-expect.ensures.1 in
    rw (p.1, p.2)
    (failed_last _ (IsToken Semicolon) Any _ (λ (x : Unit {0}). x) stmt_of c.in_err-expect.field-0.0 _ _ c.expect.new.self
    (step _ _ _ Any Any _ c.in_ok-test.test _ _ _
    (assertion-parts _)
    c.in_ok-test.ensures (λ y q rest ok k. tt))
    c.in_err-expect.ensures.reads)

pub returns : goal.returns
returns c =
    subst (λ s. Ends (IsBehind AssertWord) Any s c.args.self.now c.expect.new.self) (sym (stmt_of-assert c.in_ok-test.test))
    (done _ _ Any _ tt _ _ _
    (step _ _ _ Any Any _ c.in_ok-test.test _ _ _
    (assertion-parts _)
    c.in_ok-test.ensures (λ y q rest ok k. tt))
    c.in_ok-expect.ensures.reads)
