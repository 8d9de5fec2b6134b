use Rattle.std.proofs.Common.{refl, sym, ◌∙◌}
use Rattle.vmv_text.specs.Symbols.{as_token}
use Rattle.vmv_text.proofs.Steps.{first_skipped, not_first}
use Rattle.vmv_text.proofs.cursor.Cursor.takes.Goals as goal

pub returns-then-is_token-clause-tests : goal.returns-then-is_token-clause-tests
returns-then-is_token-clause-tests c =
    first_skipped (as_token c.args.wanted) c.args.self.now c.skip.new.self (sym c.peek.ensures ∙ c.is_token.ensures.0 c.if-is_token.true) c.skip.ensures.exact

pub returns-else-is_token-clause-tests : goal.returns-else-is_token-clause-tests
returns-else-is_token-clause-tests c =
    (not_first (as_token c.args.wanted) c.args.self.now (λ h. let yes = c.is_token.ensures.1 (c.peek.ensures ∙ h) in cc (yes, c.if-is_token.false)), refl)
