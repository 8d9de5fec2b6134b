use Rattle.std.proofs.Common.{ap, ◌∙◌}
use Rattle.vmv_disk.specs.State.{DiskState}
use Rattle.vmv_disk.specs.Replay.{fresh}
use Rattle.vmv_disk.proofs.Replaying.{size_noted}
use Rattle.vmv_disk.proofs.kept.Kept.note_size.Goals as goal

pub invariant_of-self-clause-replayed : goal.invariant_of-self-clause-replayed
invariant_of-self-clause-replayed c = ap (λ (s : DiskState). s.bytes) (size_noted (fresh c.args.self.now.first) _ _ _ c.note.ensures.calls) ∙ c.args.self.now.replayed

pub returns-clause-state : goal.returns-clause-state
returns-clause-state c = size_noted (fresh c.args.self.now.first) _ _ _ c.note.ensures.calls
