use Rattle.std.proofs.Common.{◌≡◌, ℤ, subst, sym, to_z, of_z, w64, rules}
use Rattle.std.proofs.lemmas.Result.{err_from_is_err_and}
use Rattle.vmv_tree.specs.declared.name.Name.{Name}
use Rattle.vmv_tree.specs.declared.tree.Operand.{Operand}
use Rattle.vmv_text.specs.declared.token.Token.TheVariants.{ToWord, CapWord}
use Rattle.vmv_text.specs.Grammar.{IsName, IsOperand}
use Rattle.vmv_text.specs.Reading.{Any, Ends, IsToken, IsSmall, IsTurns}
use Rattle.vmv_text.proofs.Steps.{step, failed, failed_last, done, open_then, open_token}
use Rattle.vmv_text.proofs.Single.{open_operand, open_small}
use Rattle.vmv_text.proofs.Blocks.{turns-parts}
use Rattle.vmv_text.proofs.cursor.Cursor.turns.Goals as goal

pub returns-in_err-index : goal.returns-in_err-index
returns-in_err-index c =
    let p = err_from_is_err_and c.from_residual.result c.from_residual.ensures.1 in
    rw (p.1, p.2)
    (failed _ IsName _ Any Any _ (λ (x : Name). x) (λ (x : Name × (Operand × ℤ)). x) c.in_err-index.field-0.0 _ _ c.name.new.self
    (turns-parts _)
    c.in_err-index.ensures (λ y q rest ok k. tt)
    (open_then _ _ (open_token ToWord) (open_then _ _ open_operand (open_then _ _ (open_token CapWord) open_small))))

pub returns-in_err-expect : goal.returns-in_err-expect
returns-in_err-expect c =
    let p = err_from_is_err_and c.from_residual-in_err-expect.result c.from_residual-in_err-expect.ensures.1 in
    rw (p.1, p.2)
    (failed _ (IsToken ToWord) _ Any Any _ (λ (x : Unit {0}). x) (λ (x : Name × (Operand × ℤ)). x) c.in_err-expect.field-0.0 _ _ c.expect.new.self
    (step _ _ _ Any Any _ c.in_ok-index.index _ _ _
    (turns-parts _)
    c.in_ok-index.ensures (λ y q rest ok k. tt))
    c.in_err-expect.ensures.reads (λ y q rest ok k. tt)
    (open_then _ _ open_operand (open_then _ _ (open_token CapWord) open_small)))

pub returns-in_err-bound : goal.returns-in_err-bound
returns-in_err-bound c =
    let p = err_from_is_err_and c.from_residual-in_err-bound.result c.from_residual-in_err-bound.ensures.1 in
    rw (p.1, p.2)
    (failed _ IsOperand _ Any Any _ (λ (x : Operand). x) (λ (x : Name × (Operand × ℤ)). x) c.in_err-bound.field-0.0 _ _ c.operand.new.self
    (step _ _ _ Any Any _ tt _ _ _
    (step _ _ _ Any Any _ c.in_ok-index.index _ _ _
    (turns-parts _)
    c.in_ok-index.ensures (λ y q rest ok k. tt))
    c.in_ok-expect.ensures.reads (λ y q rest ok k. tt))
    c.in_err-bound.ensures (λ y q rest ok k. tt)
    (open_then _ _ (open_token CapWord) open_small))

pub returns-in_err-expect-2 : goal.returns-in_err-expect-2
returns-in_err-expect-2 c =
    let p = err_from_is_err_and c.from_residual-in_err-expect-2.result c.from_residual-in_err-expect-2.ensures.1 in
    rw (p.1, p.2)
    (failed _ (IsToken CapWord) _ Any Any _ (λ (x : Unit {0}). x) (λ (x : Name × (Operand × ℤ)). x) c.in_err-expect-2.field-0.0 _ _ c.expect-2.new.self
    (step _ _ _ Any Any _ c.in_ok-bound.bound _ _ _
    (step _ _ _ Any Any _ tt _ _ _
    (step _ _ _ Any Any _ c.in_ok-index.index _ _ _
    (turns-parts _)
    c.in_ok-index.ensures (λ y q rest ok k. tt))
    c.in_ok-expect.ensures.reads (λ y q rest ok k. tt))
    c.in_ok-bound.ensures (λ y q rest ok k. tt))
    c.in_err-expect-2.ensures.reads (λ y q rest ok k. tt)
    open_small)

pub returns-in_err-cap : goal.returns-in_err-cap
returns-in_err-cap c =
    let p = err_from_is_err_and c.from_residual-in_err-cap.result c.from_residual-in_err-cap.ensures.1 in
    rw (p.1, p.2)
    (failed_last _ IsSmall Any _ (λ (x : ℤ). x) (λ (x : Name × (Operand × ℤ)). x) c.in_err-cap.field-0.0 _ _ c.small.new.self
    (step _ _ _ Any Any _ tt _ _ _
    (step _ _ _ Any Any _ c.in_ok-bound.bound _ _ _
    (step _ _ _ Any Any _ tt _ _ _
    (step _ _ _ Any Any _ c.in_ok-index.index _ _ _
    (turns-parts _)
    c.in_ok-index.ensures (λ y q rest ok k. tt))
    c.in_ok-expect.ensures.reads (λ y q rest ok k. tt))
    c.in_ok-bound.ensures (λ y q rest ok k. tt))
    c.in_ok-expect-2.ensures.reads (λ y q rest ok k. tt))
    c.in_err-cap.ensures)

pub returns : goal.returns
returns c =
    let cap : to_z w64 (of_z w64 c.in_ok-cap.cap) ≡ c.in_ok-cap.cap = search rules in
    let made : Ends IsTurns Any (c.in_ok-index.index, (c.in_ok-bound.bound, c.in_ok-cap.cap)) c.args.self.now c.small.new.self =
    done _ _ Any _ c.in_ok-cap.cap _ _ _
    (step _ _ _ Any Any _ tt _ _ _
    (step _ _ _ Any Any _ c.in_ok-bound.bound _ _ _
    (step _ _ _ Any Any _ tt _ _ _
    (step _ _ _ Any Any _ c.in_ok-index.index _ _ _
    (turns-parts _)
    c.in_ok-index.ensures (λ y q rest ok k. tt))
    c.in_ok-expect.ensures.reads (λ y q rest ok k. tt))
    c.in_ok-bound.ensures (λ y q rest ok k. tt))
    c.in_ok-expect-2.ensures.reads (λ y q rest ok k. tt))
    c.in_ok-cap.ensures in
    subst (λ z. Ends IsTurns Any (c.in_ok-index.index, (c.in_ok-bound.bound, z)) c.args.self.now c.small.new.self) (sym cap) made
