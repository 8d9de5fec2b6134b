use Rattle.std.proofs.Common.{◌≡◌, ℤ, subst, sym, ◌∙◌, to_z, of_z, w64, rules}
use Rattle.std.proofs.lemmas.Result.{err_from_is_err_and}
use Rattle.vmv_tree.specs.declared.tree.Operand.{Operand}
use Rattle.vmv_tree.specs.declared.tree.Operand.TheVariants.{Lit}
use Rattle.vmv_text.proofs.Steps.{failed_last, done}
use Rattle.vmv_text.proofs.Single.{operand_ends, operand-lit}
use Rattle.vmv_text.specs.Grammar.{IsOperand, IsLit}
use Rattle.vmv_text.specs.Reading.{Any, Ends}
use Rattle.vmv_text.proofs.cursor.Cursor.operand.Goals as goal

pub returns-in-Some : goal.returns-in-Some
returns-in-Some c = operand_ends c.in-Some.name _ _ (sym c.peek.ensures ∙ c.in-Some.ensures) c.skip.ensures.exact

pub returns-in_err-word : goal.returns-in_err-word
returns-in_err-word c =
    let p = err_from_is_err_and c.from_residual.result c.from_residual.ensures.1 in
    rw (p.1, p.2)
    (failed_last IsOperand IsLit Any Lit (λ (x : ℤ). x) (λ (x : Operand). x) c.in_err-word.field-0.0 _ _ c.lit.new.self (operand-lit _ (λ x h. c.in_default.ensures x (c.peek.ensures ∙ h))) c.in_err-word.ensures)

pub returns : goal.returns
returns c =
    let word : to_z w64 (of_z w64 c.in_ok-word.word) ≡ c.in_ok-word.word = search rules in
    subst (λ z. Ends IsOperand Any (Lit z) c.args.self.now c.lit.new.self) (sym word)
    (done IsOperand IsLit Any Lit c.in_ok-word.word _ _ _ (operand-lit _ (λ x h. c.in_default.ensures x (c.peek.ensures ∙ h))) c.in_ok-word.ensures)
