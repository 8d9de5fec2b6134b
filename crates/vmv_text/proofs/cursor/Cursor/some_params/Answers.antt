use Rattle.std.proofs.Common.{List, arith}
use Rattle.std.proofs.lemmas.Result.{err_from_is_err_and}
use Rattle.vmv_tree.specs.declared.tree.Param.{Param}
use Rattle.vmv_text.specs.declared.token.Token.TheVariants.{CloseParen}
use Rattle.vmv_text.specs.Grammar.{IsParam}
use Rattle.vmv_text.specs.Reading.{Any}
use Rattle.vmv_text.proofs.Steps.{ends_within}
use Rattle.vmv_text.proofs.CommaLists.{reading_start, reading_more, reading_failed, reading_done, reading_open}
use Rattle.vmv_text.proofs.cursor.Cursor.some_params.Goals as goal

pub returns-in_err-param : goal.returns-in_err-param
returns-in_err-param c =
    let p = err_from_is_err_and c.from_residual.result c.from_residual.ensures.1 in
    rw (p.1, p.2)
    (reading_failed CloseParen IsParam (λ (x : Param). x) (λ (x : List Param). x) c.in_err-param.field-0.0 _ _ _ c.param.new.self c.loop-params.invariant c.in_err-param.ensures)

pub returns-in_err-expect : goal.returns-in_err-expect
returns-in_err-expect c =
    let p = err_from_is_err_and c.from_residual-in_err-expect.result c.from_residual-in_err-expect.ensures.1 in
    rw (p.1, p.2)
    (reading_open CloseParen IsParam (λ (x : List Param). x) c.in_err-expect.field-0.0 _ _ c.in_ok-param.param _ _ _ c.expect.new.self c.loop-params.invariant c.in_ok-param.ensures c.if-not-takes.ensures.tests c.in_err-expect.ensures.reads)

pub returns-then-not-takes : goal.returns-then-not-takes
returns-then-not-takes c =
    rw c.in_ok-push.ensures.ok
    (reading_done CloseParen IsParam _ _ c.in_ok-param.param _ _ _ _ c.loop-params.invariant c.in_ok-param.ensures c.if-not-takes.ensures.tests c.in_ok-expect.ensures.reads)

pub loop-params-init : goal.loop-params-init
loop-params-init c = rw c.new-params.ensures (reading_start CloseParen IsParam _)

pub loop-params-preserved : goal.loop-params-preserved
loop-params-preserved c =
    rw c.in_ok-push.ensures.ok
    (reading_more CloseParen IsParam (λ h. cc h) _ _ c.in_ok-param.param _ _ _ c.loop-params.invariant c.in_ok-param.ensures c.if-not-takes.ensures.tests)

pub loop-params-smaller : goal.loop-params-smaller
loop-params-smaller c = omega (arith, ends_within IsParam Any c.in_ok-param.param _ _ c.in_ok-param.ensures, c.if-not-takes.ensures.shorter)
