use Rattle.std.proofs.Common.{Option, subst, sym}
use Rattle.std.proofs.lemmas.Result.{err_from_is_err_and}
use Rattle.vmv_tree.specs.declared.tree.Operand.{Operand}
use Rattle.vmv_tree.specs.declared.tree.Op.{Op}
use Rattle.vmv_tree.specs.View.{stmt_of}
use Rattle.vmv_text.specs.Reading.{Any, IsTail, IsCall, IsNamedValue, Ends}
use Rattle.vmv_text.proofs.Steps.{carried_as, failed_last, done}
use Rattle.vmv_text.proofs.Assignments.{named-call, named-tail}
use Rattle.vmv_text.proofs.cursor.Cursor.named_value.Goals as goal

pub returns-then-takes : goal.returns-then-takes
returns-then-takes c =
    carried_as stmt_of (IsNamedValue c.args.to c.args.name) (IsCall c.args.to c.args.name) Any c.call.result _ _ c.call.new.self (named-call c.args.to c.args.name _ _ c.if-takes.ensures.tests) c.call.ensures

pub returns-in_err-tail : goal.returns-in_err-tail
returns-in_err-tail c =
    let p = err_from_is_err_and c.from_residual.result c.from_residual.ensures.1 in
    rw (p.1, p.2)
    (failed_last _ IsTail Any _ (λ (x : Option (Op × Operand)). x) stmt_of c.in_err-tail.field-0.0 _ _ c.tail.new.self (named-tail c.args.to c.args.name _ _ c.if-takes.ensures.tests) c.in_err-tail.ensures)

pub returns : goal.returns
returns c =
    subst (λ s. Ends (IsNamedValue c.args.to c.args.name) Any s c.args.self.now c.tail.new.self) (sym c.assigned.ensures)
    (done _ _ Any _ c.in_ok-tail.tail _ _ _ (named-tail c.args.to c.args.name _ _ c.if-takes.ensures.tests) c.in_ok-tail.ensures)
