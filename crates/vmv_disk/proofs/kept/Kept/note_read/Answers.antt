use Rattle.std.proofs.Common.{ap, ◌∙◌}
use Rattle.vmv_disk.specs.State.{DiskState}
use Rattle.vmv_disk.specs.Replay.{fresh}
use Rattle.vmv_disk.proofs.Replaying.{read_noted}
use Rattle.vmv_disk.proofs.kept.Kept.note_read.Goals as goal

pub invariant_of-self-clause-replayed : goal.invariant_of-self-clause-replayed
invariant_of-self-clause-replayed c = ap (λ (s : DiskState). s.bytes) (read_noted (fresh c.args.self.now.first) _ _ _ _ _ c.note.ensures.calls) ∙ c.args.self.now.replayed

pub returns-clause-state : goal.returns-clause-state
returns-clause-state c = read_noted (fresh c.args.self.now.first) _ _ _ _ _ c.note.ensures.calls
