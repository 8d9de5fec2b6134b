use Rattle.std.proofs.Common.{◌≡◌, ℤ, subst, sym, to_z, of_z, w64, rules}
use Rattle.std.proofs.lemmas.Result.{err_from_is_err_and}
use Rattle.vmv_tree.specs.declared.name.Name.{Name}
use Rattle.vmv_tree.specs.declared.tree.Param.{Param}
use Rattle.vmv_text.specs.declared.token.Token.TheVariants.{Colon, Dots}
use Rattle.vmv_text.specs.Grammar.{IsName, IsLit, IsParam}
use Rattle.vmv_text.specs.Reading.{Any, IsToken, Ends}
use Rattle.vmv_text.proofs.Steps.{step, failed, failed_last, done, open_then, open_token}
use Rattle.vmv_text.proofs.Single.{open_lit}
use Rattle.vmv_text.proofs.CommaLists.{param-parts}
use Rattle.vmv_text.proofs.cursor.Cursor.param.Goals as goal

pub returns-in_err-name : goal.returns-in_err-name
returns-in_err-name c =
    let p = err_from_is_err_and c.from_residual.result c.from_residual.ensures.1 in
    rw (p.1, p.2)
    (failed _ IsName _ Any Any _ (λ (x : Name). x) (λ (x : Param). x) c.in_err-name.field-0.0 _ _ c.name.new.self
    (param-parts _)
    c.in_err-name.ensures (λ y q rest ok k. tt)
    (open_then _ _ (open_token Colon) (open_then _ _ open_lit (open_then _ _ (open_token Dots) open_lit))))

pub returns-in_err-expect : goal.returns-in_err-expect
returns-in_err-expect c =
    let p = err_from_is_err_and c.from_residual-in_err-expect.result c.from_residual-in_err-expect.ensures.1 in
    rw (p.1, p.2)
    (failed _ (IsToken Colon) _ Any Any _ (λ (x : Unit {0}). x) (λ (x : Param). x) c.in_err-expect.field-0.0 _ _ c.expect.new.self
    (step _ _ _ Any Any _ c.in_ok-name.name _ _ _
    (param-parts _)
    c.in_ok-name.ensures (λ y q rest ok k. tt))
    c.in_err-expect.ensures.reads (λ y q rest ok k. tt)
    (open_then _ _ open_lit (open_then _ _ (open_token Dots) open_lit)))

pub returns-in_err-lo : goal.returns-in_err-lo
returns-in_err-lo c =
    let p = err_from_is_err_and c.from_residual-in_err-lo.result c.from_residual-in_err-lo.ensures.1 in
    rw (p.1, p.2)
    (failed _ IsLit _ Any Any _ (λ (x : ℤ). x) (λ (x : Param). x) c.in_err-lo.field-0.0 _ _ c.lit.new.self
    (step _ _ _ Any Any _ tt _ _ _
    (step _ _ _ Any Any _ c.in_ok-name.name _ _ _
    (param-parts _)
    c.in_ok-name.ensures (λ y q rest ok k. tt))
    c.in_ok-expect.ensures.reads (λ y q rest ok k. tt))
    c.in_err-lo.ensures (λ y q rest ok k. tt)
    (open_then _ _ (open_token Dots) open_lit))

pub returns-in_err-expect-2 : goal.returns-in_err-expect-2
returns-in_err-expect-2 c =
    let p = err_from_is_err_and c.from_residual-in_err-expect-2.result c.from_residual-in_err-expect-2.ensures.1 in
    rw (p.1, p.2)
    (failed _ (IsToken Dots) _ Any Any _ (λ (x : Unit {0}). x) (λ (x : Param). x) c.in_err-expect-2.field-0.0 _ _ c.expect-2.new.self
    (step _ _ _ Any Any _ c.in_ok-lo.lo _ _ _
    (step _ _ _ Any Any _ tt _ _ _
    (step _ _ _ Any Any _ c.in_ok-name.name _ _ _
    (param-parts _)
    c.in_ok-name.ensures (λ y q rest ok k. tt))
    c.in_ok-expect.ensures.reads (λ y q rest ok k. tt))
    c.in_ok-lo.ensures (λ y q rest ok k. tt))
    c.in_err-expect-2.ensures.reads (λ y q rest ok k. tt)
    open_lit)

pub returns-in_err-hi : goal.returns-in_err-hi
returns-in_err-hi c =
    let p = err_from_is_err_and c.from_residual-in_err-hi.result c.from_residual-in_err-hi.ensures.1 in
    rw (p.1, p.2)
    (failed_last _ IsLit Any _ (λ (x : ℤ). x) (λ (x : Param). x) c.in_err-hi.field-0.0 _ _ c.lit-2.new.self
    (step _ _ _ Any Any _ tt _ _ _
    (step _ _ _ Any Any _ c.in_ok-lo.lo _ _ _
    (step _ _ _ Any Any _ tt _ _ _
    (step _ _ _ Any Any _ c.in_ok-name.name _ _ _
    (param-parts _)
    c.in_ok-name.ensures (λ y q rest ok k. tt))
    c.in_ok-expect.ensures.reads (λ y q rest ok k. tt))
    c.in_ok-lo.ensures (λ y q rest ok k. tt))
    c.in_ok-expect-2.ensures.reads (λ y q rest ok k. tt))
    c.in_err-hi.ensures)

pub returns : goal.returns
returns c =
    let lo : to_z w64 (of_z w64 c.in_ok-lo.lo) ≡ c.in_ok-lo.lo = search rules in
    let hi : to_z w64 (of_z w64 c.in_ok-hi.hi) ≡ c.in_ok-hi.hi = search rules in
    let made : Ends IsParam Any (record { name = c.in_ok-name.name; lo = c.in_ok-lo.lo; hi = c.in_ok-hi.hi }) c.args.self.now c.lit-2.new.self =
    done _ _ Any _ c.in_ok-hi.hi _ _ _
    (step _ _ _ Any Any _ tt _ _ _
    (step _ _ _ Any Any _ c.in_ok-lo.lo _ _ _
    (step _ _ _ Any Any _ tt _ _ _
    (step _ _ _ Any Any _ c.in_ok-name.name _ _ _
    (param-parts _)
    c.in_ok-name.ensures (λ y q rest ok k. tt))
    c.in_ok-expect.ensures.reads (λ y q rest ok k. tt))
    c.in_ok-lo.ensures (λ y q rest ok k. tt))
    c.in_ok-expect-2.ensures.reads (λ y q rest ok k. tt))
    c.in_ok-hi.ensures in
    subst (λ z. Ends IsParam Any (record { name = c.in_ok-name.name; lo = z; hi = to_z w64 (of_z w64 c.in_ok-hi.hi) }) c.args.self.now c.lit-2.new.self) (sym lo)
    (subst (λ z. Ends IsParam Any (record { name = c.in_ok-name.name; lo = c.in_ok-lo.lo; hi = z }) c.args.self.now c.lit-2.new.self) (sym hi) made)
