use Rattle.std.proofs.Common.{sym, ◌∙◌}
use Rattle.vmv_text.proofs.Skipping.{skipped_other, unnamed}
use Rattle.vmv_text.proofs.cursor.Cursor.go_to_next.Goals as goal

pub loop-token-preserved : goal.loop-token-preserved
loop-token-preserved c =
    skipped_other 0 c.in-Some.token _ _ _ c.loop-token.invariant (sym c.peek.ensures ∙ c.in-Some.is)
    (unnamed c.name_of.result c.in-Some.token c.name_of.ensures (sym c.is_some.ensures ∙ c.if-is_some.false)) c.skip.ensures.exact
