use Rattle.vmv_sample.proofs.Pushing.{entry_pushed}
use Rattle.vmv_sample.proofs.program.push_entries.Goals as goal

pub loop-number-preserved : goal.loop-number-preserved
loop-number-preserved c =
    (c.loop-number.invariant.0, entry_pushed c.args.more c.loop-number.number c.loop-number.items _ _ _ c.in_ok-push.ensures.ok c.in_ok-entry_item.ensures c.loop-number.invariant.1)
