use Rattle.std.proofs.Common.{sym, ◌∙◌}
use Rattle.vmv_text.proofs.Single.{rel_ends, rel_stops}
use Rattle.vmv_text.proofs.cursor.Cursor.rel.Goals as goal

pub returns-in_default : goal.returns-in_default
returns-in_default c = rel_stops _ (λ x h. c.in_default.ensures x (c.peek.ensures ∙ h))

pub returns : goal.returns
returns c = rel_ends c.in-Some.rel _ _ (sym c.peek.ensures ∙ c.in-Some.ensures) c.skip.ensures.exact
