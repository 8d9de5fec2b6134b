use Rattle.std.proofs.Common.{List, subst, sym}
use Rattle.std.proofs.lemmas.Result.{err_from_is_err_and}
use Rattle.vmv_tree.specs.declared.name.Name.{Name}
use Rattle.vmv_tree.specs.Tree.{Body, Item, helper}
use Rattle.vmv_text.specs.Parts.{IsBodyPart, IsItemPart}
use Rattle.vmv_text.specs.declared.token.Token.TheVariants.{OpenParen}
use Rattle.vmv_text.specs.Grammar.{IsName, IsBody}
use Rattle.vmv_text.specs.Reading.{Any, IsToken, Listed}
use Rattle.vmv_text.proofs.Steps.{step, failed, failed_last, closed_with, open_then, open_token}
use Rattle.vmv_text.proofs.CommaLists.{open_listed}
use Rattle.vmv_text.proofs.Items.{helper-parts, open_body}
use Rattle.vmv_text.proofs.cursor.Cursor.helper.Goals as goal

pub returns-in_err-name : goal.returns-in_err-name
returns-in_err-name c =
    let p = err_from_is_err_and c.from_residual.result c.from_residual.ensures.1 in
    rw (p.1, p.2)
    (failed _ IsName _ Any Any _ (λ (x : Name). x) (λ (i : Item). i) c.in_err-name.field-0.0 _ _ c.name.new.self
    (helper-parts _)
    c.in_err-name.ensures (λ y q rest ok k. tt)
    (open_then _ _ (open_token OpenParen) (open_then _ _ (open_listed IsName) open_body)))

pub returns-in_err-expect : goal.returns-in_err-expect
returns-in_err-expect c =
    let p = err_from_is_err_and c.from_residual-in_err-expect.result c.from_residual-in_err-expect.ensures.1 in
    rw (p.1, p.2)
    (failed _ (IsToken OpenParen) _ Any Any _ (λ (x : Unit {0}). x) (λ (i : Item). i) c.in_err-expect.field-0.0 _ _ c.expect.new.self
    (step _ _ _ Any Any _ c.in_ok-name.name _ _ _
    (helper-parts _)
    c.in_ok-name.ensures (λ y q rest ok k. tt))
    c.in_err-expect.ensures.reads (λ y q rest ok k. tt)
    (open_then _ _ (open_listed IsName) open_body))

pub returns-in_err-params : goal.returns-in_err-params
returns-in_err-params c =
    let p = err_from_is_err_and c.from_residual-in_err-params.result c.from_residual-in_err-params.ensures.1 in
    rw (p.1, p.2)
    (failed _ (Listed IsName) _ Any Any _ (λ (x : List Name). x) (λ (i : Item). i) c.in_err-params.field-0.0 _ _ c.names.new.self
    (step _ _ _ Any Any _ tt _ _ _
    (step _ _ _ Any Any _ c.in_ok-name.name _ _ _
    (helper-parts _)
    c.in_ok-name.ensures (λ y q rest ok k. tt))
    c.in_ok-expect.ensures.reads (λ y q rest ok k. tt))
    c.in_err-params.ensures (λ y q rest ok k. tt)
    open_body)

pub returns-in_err-body : goal.returns-in_err-body
returns-in_err-body c =
    let p = err_from_is_err_and c.from_residual-in_err-body.result c.from_residual-in_err-body.ensures.1 in
    rw (p.1, p.2)
    (failed_last _ IsBody Any _ (λ (b : Body). b) (λ (i : Item). i) c.in_err-body.field-0.0 _ _ c.body.new.self
    (step _ _ _ Any Any _ c.in_ok-params.params _ _ _
    (step _ _ _ Any Any _ tt _ _ _
    (step _ _ _ Any Any _ c.in_ok-name.name _ _ _
    (helper-parts _)
    c.in_ok-name.ensures (λ y q rest ok k. tt))
    c.in_ok-expect.ensures.reads (λ y q rest ok k. tt))
    c.in_ok-params.ensures (λ y q rest ok k. tt))
    c.in_err-body.ensures)

pub returns : goal.returns
returns c =
    closed_with _ IsBody Any _ IsBodyPart IsItemPart c.in_ok-body.body c.helper_part.result _ _ c.body.new.self
    (step _ _ _ Any Any _ c.in_ok-params.params _ _ _
    (step _ _ _ Any Any _ tt _ _ _
    (step _ _ _ Any Any _ c.in_ok-name.name _ _ _
    (helper-parts _)
    c.in_ok-name.ensures (λ y q rest ok k. tt))
    c.in_ok-expect.ensures.reads (λ y q rest ok k. tt))
    c.in_ok-params.ensures (λ y q rest ok k. tt))
    c.in_ok-body.ensures (λ x h.
    subst (λ b. IsItemPart c.helper_part.result (helper c.in_ok-name.name c.in_ok-params.params b)) (sym h.2) (c.helper_part.ensures h.0 h.1))
