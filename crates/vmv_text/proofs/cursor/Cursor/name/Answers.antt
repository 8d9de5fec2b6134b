use Rattle.std.proofs.Common.{sym, ◌∙◌}
use Rattle.vmv_text.proofs.Single.{name_ends, name_stops}
use Rattle.vmv_text.proofs.cursor.Cursor.name.Goals as goal

pub returns-in_default : goal.returns-in_default
returns-in_default c = name_stops _ (λ x h. c.in_default.ensures x (c.peek.ensures ∙ h))

pub returns : goal.returns
returns c = name_ends c.in-Some.name _ _ (sym c.peek.ensures ∙ c.in-Some.ensures) c.skip.ensures.exact
