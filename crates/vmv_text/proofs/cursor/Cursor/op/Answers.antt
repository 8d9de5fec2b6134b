use Rattle.std.proofs.Common.{sym, ◌∙◌}
use Rattle.vmv_text.proofs.Single.{op_ends, op_stops}
use Rattle.vmv_text.proofs.cursor.Cursor.op.Goals as goal

pub returns-in_default : goal.returns-in_default
returns-in_default c = op_stops _ (λ x h. c.in_default.ensures x (c.peek.ensures ∙ h))

pub returns : goal.returns
returns c = op_ends c.in-Some.op _ _ (sym c.peek.ensures ∙ c.in-Some.ensures) c.skip.ensures.exact
