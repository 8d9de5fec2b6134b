use Rattle.std.proofs.Common.{◌∙◌}
use Rattle.vmv_disk.specs.Replay.{fresh}
use Rattle.vmv_disk.specs.declared.disk_call.DiskCall.TheVariants.{Sync}
use Rattle.vmv_disk.proofs.Replaying.{noted, sync_noted}
use Rattle.vmv_disk.proofs.kept.Kept.note_sync.Goals as goal

pub invariant_of-self-clause-replayed : goal.invariant_of-self-clause-replayed
invariant_of-self-clause-replayed c = sync_noted (fresh c.args.self.now.first) _ _ _ c.note.ensures.calls ∙ c.args.self.now.replayed

pub returns-clause-state : goal.returns-clause-state
returns-clause-state c = noted (fresh c.args.self.now.first) _ _ (Sync c.args.done) c.note.ensures.calls
