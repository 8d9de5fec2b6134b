use Rattle.std.proofs.Common.{Some, refl, ap, ◌∙◌}
use Rattle.vmv_report.proofs.Entered.{one_entry, no_entry}
use Rattle.vmv_report.proofs.entries.add_entry.Goals as goal

pub returns-in_ok-push : goal.returns-in_ok-push
returns-in_ok-push c = one_entry c.args.revision.now c.args.number _ _ _ c.in_ok-push.ensures.ok (c.is_entry.ensures ∙ ap Some c.if-is_entry.true) refl c.requires.before

pub returns-else-is_entry : goal.returns-else-is_entry
returns-else-is_entry c = no_entry c.args.revision.now c.args.number _ (c.is_entry.ensures ∙ ap Some c.if-is_entry.false) c.requires.before
