use Rattle.std.proofs.Common.{List, refl}
use Rattle.std.proofs.lemmas.Result.{err_from_is_err_and}
use Rattle.vmv_tree.specs.declared.name.Name.{Name}
use Rattle.vmv_tree.specs.declared.tree.Operand.{Operand}
use Rattle.vmv_tree.specs.Tree.{Block, Body}
use Rattle.vmv_text.specs.declared.token.Token.TheVariants.{OpenBrace, CloseBrace, Semicolon, ReturnWord}
use Rattle.vmv_text.specs.Grammar.{IsOperand, IsVars, IsBody}
use Rattle.vmv_text.specs.Reading.{Any, NoVar, Ends, IsToken, StmtsTo}
use Rattle.vmv_text.proofs.Steps.{step, failed, failed_last, done, open_then, open_token}
use Rattle.vmv_text.proofs.Single.{open_operand}
use Rattle.vmv_text.proofs.Blocks.{open_stmts}
use Rattle.vmv_text.proofs.Items.{body-parts, no_var_next, open_vars}
use Rattle.vmv_text.proofs.cursor.Cursor.body.Goals as goal

pub returns-in_err-expect : goal.returns-in_err-expect
returns-in_err-expect c =
    let p = err_from_is_err_and c.from_residual.result c.from_residual.ensures.1 in
    rw (p.1, p.2)
    (failed _ (IsToken OpenBrace) _ Any Any _ (λ (x : Unit {0}). x) (λ (b : Body). b) c.in_err-expect.field-0.0 _ _ c.expect.new.self
    (body-parts _)
    c.in_err-expect.ensures.reads (λ y q rest ok k. tt)
    (open_then _ _ open_vars (open_then _ _ (open_stmts ReturnWord) (open_then _ _ open_operand (open_then _ _ (open_token Semicolon) (open_token CloseBrace))))))

pub returns-in_err-vars : goal.returns-in_err-vars
returns-in_err-vars c =
    let p = err_from_is_err_and c.from_residual-in_err-vars.result c.from_residual-in_err-vars.ensures.1 in
    rw (p.1, p.2)
    (failed _ IsVars _ Any NoVar _ (λ (x : List Name). x) (λ (b : Body). b) c.in_err-vars.field-0.0 _ _ c.vars.new.self
    (step _ _ _ Any Any _ tt _ _ _
    (body-parts _)
    c.in_ok-expect.ensures.reads (λ y q rest ok k. tt))
    c.in_err-vars.ensures (no_var_next _)
    (open_then _ _ (open_stmts ReturnWord) (open_then _ _ open_operand (open_then _ _ (open_token Semicolon) (open_token CloseBrace)))))

pub returns-in_err-block : goal.returns-in_err-block
returns-in_err-block c =
    let p = err_from_is_err_and c.from_residual-in_err-block.result c.from_residual-in_err-block.ensures.1 in
    rw (p.1, p.2)
    (failed _ (StmtsTo ReturnWord) _ Any Any _ (λ (b : Block). b) (λ (b : Body). b) c.in_err-block.field-0.0 _ _ c.statements.new.self
    (step _ _ _ Any NoVar _ c.in_ok-vars.vars _ _ _
    (step _ _ _ Any Any _ tt _ _ _
    (body-parts _)
    c.in_ok-expect.ensures.reads (λ y q rest ok k. tt))
    c.in_ok-vars.ensures (no_var_next _))
    c.in_err-block.ensures (λ y q rest ok k. tt)
    (open_then _ _ open_operand (open_then _ _ (open_token Semicolon) (open_token CloseBrace))))

pub returns-in_err-output : goal.returns-in_err-output
returns-in_err-output c =
    let p = err_from_is_err_and c.from_residual-in_err-output.result c.from_residual-in_err-output.ensures.1 in
    rw (p.1, p.2)
    (failed _ IsOperand _ Any Any _ (λ (x : Operand). x) (λ (b : Body). b) c.in_err-output.field-0.0 _ _ c.operand.new.self
    (step _ _ _ Any Any _ c.in_ok-block.ensures.0 _ _ _
    (step _ _ _ Any NoVar _ c.in_ok-vars.vars _ _ _
    (step _ _ _ Any Any _ tt _ _ _
    (body-parts _)
    c.in_ok-expect.ensures.reads (λ y q rest ok k. tt))
    c.in_ok-vars.ensures (no_var_next _))
    c.in_ok-block.ensures.2 (λ y q rest ok k. tt))
    c.in_err-output.ensures (λ y q rest ok k. tt)
    (open_then _ _ (open_token Semicolon) (open_token CloseBrace)))

pub returns-in_err-expect-2 : goal.returns-in_err-expect-2
returns-in_err-expect-2 c =
    let p = err_from_is_err_and c.from_residual-in_err-expect-2.result c.from_residual-in_err-expect-2.ensures.1 in
    rw (p.1, p.2)
    (failed _ (IsToken Semicolon) _ Any Any _ (λ (x : Unit {0}). x) (λ (b : Body). b) c.in_err-expect-2.field-0.0 _ _ c.expect-2.new.self
    (step _ _ _ Any Any _ c.in_ok-output.output _ _ _
    (step _ _ _ Any Any _ c.in_ok-block.ensures.0 _ _ _
    (step _ _ _ Any NoVar _ c.in_ok-vars.vars _ _ _
    (step _ _ _ Any Any _ tt _ _ _
    (body-parts _)
    c.in_ok-expect.ensures.reads (λ y q rest ok k. tt))
    c.in_ok-vars.ensures (no_var_next _))
    c.in_ok-block.ensures.2 (λ y q rest ok k. tt))
    c.in_ok-output.ensures (λ y q rest ok k. tt))
    c.in_err-expect-2.ensures.reads (λ y q rest ok k. tt)
    (open_token CloseBrace))

pub returns-in_err-expect-3 : goal.returns-in_err-expect-3
returns-in_err-expect-3 c =
    let p = err_from_is_err_and c.from_residual-in_err-expect-3.result c.from_residual-in_err-expect-3.ensures.1 in
    rw (p.1, p.2)
    (failed_last _ (IsToken CloseBrace) Any _ (λ (x : Unit {0}). x) (λ (b : Body). b) c.in_err-expect-3.field-0.0 _ _ c.expect-3.new.self
    (step _ _ _ Any Any _ tt _ _ _
    (step _ _ _ Any Any _ c.in_ok-output.output _ _ _
    (step _ _ _ Any Any _ c.in_ok-block.ensures.0 _ _ _
    (step _ _ _ Any NoVar _ c.in_ok-vars.vars _ _ _
    (step _ _ _ Any Any _ tt _ _ _
    (body-parts _)
    c.in_ok-expect.ensures.reads (λ y q rest ok k. tt))
    c.in_ok-vars.ensures (no_var_next _))
    c.in_ok-block.ensures.2 (λ y q rest ok k. tt))
    c.in_ok-output.ensures (λ y q rest ok k. tt))
    c.in_ok-expect-2.ensures.reads (λ y q rest ok k. tt))
    c.in_err-expect-3.ensures.reads)

pub returns : goal.returns
returns c =
    let body : Body = record { vars = c.in_ok-vars.vars; block = c.in_ok-block.ensures.0; output = c.in_ok-output.output } in
    let made : Ends IsBody Any body c.args.self.now c.expect-3.new.self =
    done _ _ Any _ tt _ _ _
    (step _ _ _ Any Any _ tt _ _ _
    (step _ _ _ Any Any _ c.in_ok-output.output _ _ _
    (step _ _ _ Any Any _ c.in_ok-block.ensures.0 _ _ _
    (step _ _ _ Any NoVar _ c.in_ok-vars.vars _ _ _
    (step _ _ _ Any Any _ tt _ _ _
    (body-parts _)
    c.in_ok-expect.ensures.reads (λ y q rest ok k. tt))
    c.in_ok-vars.ensures (no_var_next _))
    c.in_ok-block.ensures.2 (λ y q rest ok k. tt))
    c.in_ok-output.ensures (λ y q rest ok k. tt))
    c.in_ok-expect-2.ensures.reads (λ y q rest ok k. tt))
    c.in_ok-expect-3.ensures.reads in
    (body, (c.in_ok-block.ensures.0, c.in_ok-block.ensures.1, refl), made)
