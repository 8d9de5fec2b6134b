use Rattle.std.proofs.Common.{List, arith}
use Rattle.std.proofs.lemmas.Result.{err_from_is_err_and}
use Rattle.vmv_tree.specs.declared.tree.Operand.{Operand}
use Rattle.vmv_text.specs.declared.token.Token.TheVariants.{CloseParen}
use Rattle.vmv_text.specs.Grammar.{IsOperand}
use Rattle.vmv_text.specs.Reading.{Any}
use Rattle.vmv_text.proofs.Steps.{ends_within}
use Rattle.vmv_text.proofs.CommaLists.{reading_start, reading_more, reading_failed, reading_done, reading_open}
use Rattle.vmv_text.proofs.cursor.Cursor.some_operands.Goals as goal

pub returns-in_err-arg : goal.returns-in_err-arg
returns-in_err-arg c =
    let p = err_from_is_err_and c.from_residual.result c.from_residual.ensures.1 in
    rw (p.1, p.2)
    (reading_failed CloseParen IsOperand (λ (x : Operand). x) (λ (x : List Operand). x) c.in_err-arg.field-0.0 _ _ _ c.operand.new.self c.loop-args.invariant c.in_err-arg.ensures)

pub returns-in_err-expect : goal.returns-in_err-expect
returns-in_err-expect c =
    let p = err_from_is_err_and c.from_residual-in_err-expect.result c.from_residual-in_err-expect.ensures.1 in
    rw (p.1, p.2)
    (reading_open CloseParen IsOperand (λ (x : List Operand). x) c.in_err-expect.field-0.0 _ _ c.in_ok-arg.arg _ _ _ c.expect.new.self c.loop-args.invariant c.in_ok-arg.ensures c.if-not-takes.ensures.tests c.in_err-expect.ensures.reads)

pub returns-then-not-takes : goal.returns-then-not-takes
returns-then-not-takes c =
    rw c.in_ok-push.ensures.ok
    (reading_done CloseParen IsOperand _ _ c.in_ok-arg.arg _ _ _ _ c.loop-args.invariant c.in_ok-arg.ensures c.if-not-takes.ensures.tests c.in_ok-expect.ensures.reads)

pub loop-args-init : goal.loop-args-init
loop-args-init c = rw c.new-args.ensures (reading_start CloseParen IsOperand _)

pub loop-args-preserved : goal.loop-args-preserved
loop-args-preserved c =
    rw c.in_ok-push.ensures.ok
    (reading_more CloseParen IsOperand (λ h. cc h) _ _ c.in_ok-arg.arg _ _ _ c.loop-args.invariant c.in_ok-arg.ensures c.if-not-takes.ensures.tests)

pub loop-args-smaller : goal.loop-args-smaller
loop-args-smaller c = omega (arith, ends_within IsOperand Any c.in_ok-arg.arg _ _ c.in_ok-arg.ensures, c.if-not-takes.ensures.shorter)
