use Rattle.std.proofs.Common.{◌≡◌, ℤ, subst, sym, to_z, of_z, w64, rules}
use Rattle.std.proofs.lemmas.Result.{err_from_is_err_and}
use Rattle.vmv_tree.specs.declared.name.Name.{Name}
use Rattle.vmv_tree.specs.Tree.{outside}
use Rattle.vmv_tree.specs.View.{item_of}
use Rattle.vmv_text.specs.declared.token.Token.TheVariants.{OpenParen, CloseParen, Semicolon, OutsideWord}
use Rattle.vmv_text.specs.Grammar.{IsName}
use Rattle.vmv_text.specs.Reading.{Any, IsToken, IsSmall, IsItemBehind, Ends}
use Rattle.vmv_text.proofs.Steps.{step, failed, failed_last, done, open_then, open_token}
use Rattle.vmv_text.proofs.Single.{open_small}
use Rattle.vmv_text.proofs.Items.{outside-parts}
use Rattle.vmv_text.proofs.cursor.Cursor.outside.Goals as goal

pub returns-in_err-name : goal.returns-in_err-name
returns-in_err-name c =
    let p = err_from_is_err_and c.from_residual.result c.from_residual.ensures.1 in
    rw (p.1, p.2)
    (failed _ IsName _ Any Any _ (λ (x : Name). x) item_of c.in_err-name.field-0.0 _ _ c.name.new.self
    (outside-parts _)
    c.in_err-name.ensures (λ y q rest ok k. tt)
    (open_then _ _ (open_token OpenParen) (open_then _ _ open_small (open_then _ _ (open_token CloseParen) (open_token Semicolon)))))

pub returns-in_err-expect : goal.returns-in_err-expect
returns-in_err-expect c =
    let p = err_from_is_err_and c.from_residual-in_err-expect.result c.from_residual-in_err-expect.ensures.1 in
    rw (p.1, p.2)
    (failed _ (IsToken OpenParen) _ Any Any _ (λ (x : Unit {0}). x) item_of c.in_err-expect.field-0.0 _ _ c.expect.new.self
    (step _ _ _ Any Any _ c.in_ok-name.name _ _ _
    (outside-parts _)
    c.in_ok-name.ensures (λ y q rest ok k. tt))
    c.in_err-expect.ensures.reads (λ y q rest ok k. tt)
    (open_then _ _ open_small (open_then _ _ (open_token CloseParen) (open_token Semicolon))))

pub returns-in_err-arity : goal.returns-in_err-arity
returns-in_err-arity c =
    let p = err_from_is_err_and c.from_residual-in_err-arity.result c.from_residual-in_err-arity.ensures.1 in
    rw (p.1, p.2)
    (failed _ IsSmall _ Any Any _ (λ (x : ℤ). x) item_of c.in_err-arity.field-0.0 _ _ c.small.new.self
    (step _ _ _ Any Any _ tt _ _ _
    (step _ _ _ Any Any _ c.in_ok-name.name _ _ _
    (outside-parts _)
    c.in_ok-name.ensures (λ y q rest ok k. tt))
    c.in_ok-expect.ensures.reads (λ y q rest ok k. tt))
    c.in_err-arity.ensures (λ y q rest ok k. tt)
    (open_then _ _ (open_token CloseParen) (open_token Semicolon)))

pub returns-in_err-expect-2 : goal.returns-in_err-expect-2
returns-in_err-expect-2 c =
    let p = err_from_is_err_and c.from_residual-in_err-expect-2.result c.from_residual-in_err-expect-2.ensures.1 in
    rw (p.1, p.2)
    (failed _ (IsToken CloseParen) _ Any Any _ (λ (x : Unit {0}). x) item_of c.in_err-expect-2.field-0.0 _ _ c.expect-2.new.self
    (step _ _ _ Any Any _ c.in_ok-arity.arity _ _ _
    (step _ _ _ Any Any _ tt _ _ _
    (step _ _ _ Any Any _ c.in_ok-name.name _ _ _
    (outside-parts _)
    c.in_ok-name.ensures (λ y q rest ok k. tt))
    c.in_ok-expect.ensures.reads (λ y q rest ok k. tt))
    c.in_ok-arity.ensures (λ y q rest ok k. tt))
    c.in_err-expect-2.ensures.reads (λ y q rest ok k. tt)
    (open_token Semicolon))

pub returns-in_err-expect-3 : goal.returns-in_err-expect-3
returns-in_err-expect-3 c =
    let p = err_from_is_err_and c.from_residual-in_err-expect-3.result c.from_residual-in_err-expect-3.ensures.1 in
    rw (p.1, p.2)
    (failed_last _ (IsToken Semicolon) Any _ (λ (x : Unit {0}). x) item_of c.in_err-expect-3.field-0.0 _ _ c.expect-3.new.self
    (step _ _ _ Any Any _ tt _ _ _
    (step _ _ _ Any Any _ c.in_ok-arity.arity _ _ _
    (step _ _ _ Any Any _ tt _ _ _
    (step _ _ _ Any Any _ c.in_ok-name.name _ _ _
    (outside-parts _)
    c.in_ok-name.ensures (λ y q rest ok k. tt))
    c.in_ok-expect.ensures.reads (λ y q rest ok k. tt))
    c.in_ok-arity.ensures (λ y q rest ok k. tt))
    c.in_ok-expect-2.ensures.reads (λ y q rest ok k. tt))
    c.in_err-expect-3.ensures.reads)

pub returns : goal.returns
returns c =
    let arity : to_z w64 (of_z w64 c.in_ok-arity.arity) ≡ c.in_ok-arity.arity = search rules in
    let made : Ends (IsItemBehind OutsideWord) Any (outside c.in_ok-name.name c.in_ok-arity.arity) c.args.self.now c.expect-3.new.self =
    done _ _ Any _ tt _ _ _
    (step _ _ _ Any Any _ tt _ _ _
    (step _ _ _ Any Any _ c.in_ok-arity.arity _ _ _
    (step _ _ _ Any Any _ tt _ _ _
    (step _ _ _ Any Any _ c.in_ok-name.name _ _ _
    (outside-parts _)
    c.in_ok-name.ensures (λ y q rest ok k. tt))
    c.in_ok-expect.ensures.reads (λ y q rest ok k. tt))
    c.in_ok-arity.ensures (λ y q rest ok k. tt))
    c.in_ok-expect-2.ensures.reads (λ y q rest ok k. tt))
    c.in_ok-expect-3.ensures.reads in
    subst (λ z. Ends (IsItemBehind OutsideWord) Any (outside c.in_ok-name.name z) c.args.self.now c.expect-3.new.self) (sym arity) made
