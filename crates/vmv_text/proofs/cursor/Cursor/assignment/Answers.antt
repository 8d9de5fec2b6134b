use Rattle.std.proofs.lemmas.Result.{err_from_is_err_and}
use Rattle.vmv_tree.specs.View.{stmt_of}
use Rattle.vmv_text.specs.declared.token.Token.TheVariants.{Named, Equals}
use Rattle.vmv_text.specs.Reading.{Any, IsToken, IsValue, IsBehind}
use Rattle.vmv_text.proofs.Steps.{carried_as, step, failed}
use Rattle.vmv_text.proofs.Assignments.{assignment-parts, open_value}
use Rattle.vmv_text.proofs.cursor.Cursor.assignment.Goals as goal

pub returns-in_err-expect : goal.returns-in_err-expect
returns-in_err-expect c =
    let p = err_from_is_err_and c.from_residual.result c.from_residual.ensures.1 in
    rw (p.1, p.2)
    (failed _ (IsToken Equals) _ Any Any _ (λ (x : Unit {0}). x) stmt_of c.in_err-expect.field-0.0 _ _ c.expect.new.self (assignment-parts c.args.to _) c.in_err-expect.ensures.reads (λ y q rest ok k. tt) (open_value c.args.to))

pub returns : goal.returns
returns c =
    carried_as stmt_of (IsBehind (Named c.args.to)) (IsValue c.args.to) Any c.value.result _ _ c.value.new.self
    (step _ _ _ Any Any _ tt _ _ _ (assignment-parts c.args.to _) c.in_ok-expect.ensures.reads (λ y q rest ok k. tt)) c.value.ensures
