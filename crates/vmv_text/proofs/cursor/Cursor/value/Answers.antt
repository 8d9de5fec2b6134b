use Rattle.std.proofs.Common.{◌≡◌, ℤ, Option, subst, sym, ◌∙◌, to_z, of_z, w64, rules}
use Rattle.std.proofs.lemmas.Result.{err_from_is_err_and}
use Rattle.vmv_tree.specs.declared.tree.Operand.{Operand}
use Rattle.vmv_tree.specs.declared.tree.Operand.TheVariants.{Lit}
use Rattle.vmv_tree.specs.declared.tree.Op.{Op}
use Rattle.vmv_tree.specs.View.{stmt_of}
use Rattle.vmv_text.specs.Grammar.{IsLit}
use Rattle.vmv_text.specs.Reading.{Any, IsTail, IsValue, IsNamedValue, assigned, Ends}
use Rattle.vmv_text.proofs.Steps.{carried_as, step, failed, failed_last, done}
use Rattle.vmv_text.proofs.Assignments.{value-named, value-parts, open_tail}
use Rattle.vmv_text.proofs.cursor.Cursor.value.Goals as goal

pub returns-in-Some : goal.returns-in-Some
returns-in-Some c =
    carried_as stmt_of (IsValue c.args.to) (IsNamedValue c.args.to c.in-Some.name) Any c.named_value.result _ _ c.named_value.new.self
    (value-named c.args.to c.in-Some.name _ _ (sym c.peek.ensures ∙ c.in-Some.ensures) c.skip.ensures.exact) c.named_value.ensures

pub returns-in_err-word : goal.returns-in_err-word
returns-in_err-word c =
    let p = err_from_is_err_and c.from_residual.result c.from_residual.ensures.1 in
    rw (p.1, p.2)
    (failed _ IsLit _ Any Any _ (λ (x : ℤ). x) stmt_of c.in_err-word.field-0.0 _ _ c.lit.new.self
    (value-parts c.args.to _ (λ x h. c.in_default.ensures x (c.peek.ensures ∙ h)))
    c.in_err-word.ensures (λ y q rest ok k. tt)
    open_tail)

pub returns-in_err-tail : goal.returns-in_err-tail
returns-in_err-tail c =
    let p = err_from_is_err_and c.from_residual-in_err-tail.result c.from_residual-in_err-tail.ensures.1 in
    rw (p.1, p.2)
    (failed_last _ IsTail Any _ (λ (x : Option (Op × Operand)). x) stmt_of c.in_err-tail.field-0.0 _ _ c.tail.new.self
    (step _ _ _ Any Any _ c.in_ok-word.word _ _ _
    (value-parts c.args.to _ (λ x h. c.in_default.ensures x (c.peek.ensures ∙ h)))
    c.in_ok-word.ensures (λ y q rest ok k. tt))
    c.in_err-tail.ensures)

pub returns : goal.returns
returns c =
    let word : to_z w64 (of_z w64 c.in_ok-word.word) ≡ c.in_ok-word.word = search rules in
    let made : Ends (IsValue c.args.to) Any (assigned c.args.to (Lit c.in_ok-word.word) c.in_ok-tail.tail) c.args.self.now c.tail.new.self =
    done _ _ Any _ c.in_ok-tail.tail _ _ _
    (step _ _ _ Any Any _ c.in_ok-word.word _ _ _
    (value-parts c.args.to _ (λ x h. c.in_default.ensures x (c.peek.ensures ∙ h)))
    c.in_ok-word.ensures (λ y q rest ok k. tt))
    c.in_ok-tail.ensures in
    subst (λ s. Ends (IsValue c.args.to) Any s c.args.self.now c.tail.new.self) (sym c.assigned.ensures)
    (subst (λ z. Ends (IsValue c.args.to) Any (assigned c.args.to (Lit z) c.in_ok-tail.tail) c.args.self.now c.tail.new.self) (sym word) made)
