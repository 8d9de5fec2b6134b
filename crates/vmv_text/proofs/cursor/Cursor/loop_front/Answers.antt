use Rattle.std.proofs.Common.{ℤ}
use Rattle.std.proofs.lemmas.Result.{err_from_is_err_and}
use Rattle.vmv_tree.specs.declared.name.Name.{Name}
use Rattle.vmv_tree.specs.declared.tree.Operand.{Operand}
use Rattle.vmv_tree.specs.declared.tree.Test.{Test}
use Rattle.vmv_text.specs.declared.token.Token.TheVariants.{OpenBrace}
use Rattle.vmv_text.specs.Grammar.{IsTest}
use Rattle.vmv_text.specs.Reading.{Any, IsToken, IsTurns}
use Rattle.vmv_text.specs.Pieces.{Piece, repeating}
use Rattle.vmv_text.proofs.Steps.{step, failed, failed_last, done, open_token}
use Rattle.vmv_text.proofs.Pieces.{repeating-parts}
use Rattle.vmv_text.proofs.cursor.Cursor.loop_front.Goals as goal

pub returns-in_err-_turns : goal.returns-in_err-_turns
returns-in_err-_turns c =
    let p = err_from_is_err_and c.from_residual.result c.from_residual.ensures.1 in
    rw (p.1, p.2)
    (failed _ IsTurns _ Any Any _ (λ (x : Name × (Operand × ℤ)). x) (λ (piece : Piece). piece) c.in_err-_turns.field-0.0 _ _ c.turns.new.self
    (repeating-parts _) c.in_err-_turns.ensures (λ y q rest ok k. tt) (open_token OpenBrace))

pub returns-in_err-expect : goal.returns-in_err-expect
returns-in_err-expect c =
    let p = err_from_is_err_and c.from_residual-in_err-expect.result c.from_residual-in_err-expect.ensures.1 in
    rw (p.1, p.2)
    (failed_last _ (IsToken OpenBrace) Any _ (λ (x : Unit {0}). x) (λ (piece : Piece). piece) c.in_err-expect.field-0.0 _ _ c.expect.new.self
    (step _ _ _ Any Any _ c.in_ok-_turns._turns _ _ _ (repeating-parts _) c.in_ok-_turns.ensures (λ y q rest ok k. tt))
    c.in_err-expect.ensures.reads)

pub returns : goal.returns
returns c = (
  repeating c.in_ok-_turns._turns,
  tt,
  done _ (IsToken OpenBrace) Any _ tt _ _ _
      (step _ _ _ Any Any _ c.in_ok-_turns._turns _ _ _ (repeating-parts _) c.in_ok-_turns.ensures (λ y q rest ok k. tt))
      c.in_ok-expect.ensures.reads,
)
