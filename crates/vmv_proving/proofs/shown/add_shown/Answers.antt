use Rattle.std.proofs.Common.{Some, ap, ◌∙◌}
use Rattle.vmv_assumption.specs.Assumed.{cond_of}
use Rattle.vmv_proving.proofs.Showing.{one_shown, none_more}
use Rattle.vmv_proving.proofs.shown.add_shown.Goals as goal

pub returns-in_ok-push : goal.returns-in_ok-push
returns-in_ok-push c =
    one_shown c.args.showing.now.revision.now c.args.showing.now.ends.now (cond_of c.args.showing.now.needed.now) c.args.number _ _ c.in_ok-one.one c.requires.before c.in_ok-push.ensures.ok
    (c.is_entry.ensures ∙ ap Some c.if-is_entry.true) c.in_ok-one.ensures

pub returns-else-is_entry : goal.returns-else-is_entry
returns-else-is_entry c = none_more c.args.showing.now.revision.now c.args.showing.now.ends.now (cond_of c.args.showing.now.needed.now) c.args.number _ c.requires.before (c.is_entry.ensures ∙ ap Some c.if-is_entry.false)
