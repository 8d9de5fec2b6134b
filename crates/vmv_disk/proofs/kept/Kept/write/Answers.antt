use Rattle.std.proofs.Common.{ℕ, List, ap, sym, ◌∙◌}
use Rattle.std.specs.Prelude.{if◌then◌else◌}
use Rattle.vmv_disk.specs.Effects.{with_piece}
use Rattle.vmv_disk.specs.Replay.{fresh}
use Rattle.vmv_disk.specs.declared.disk_call.DiskCall.TheVariants.{Write}
use Rattle.vmv_disk.proofs.Replaying.{noted, write_noted}
use Rattle.vmv_disk.proofs.kept.Kept.write.Goals as goal

pub invariant_of-self-clause-replayed : goal.invariant_of-self-clause-replayed
invariant_of-self-clause-replayed c =
    write_noted (fresh c.args.self.now.first) _ _ c.args.at c.args.piece.now c.args.done c.note_write.ensures.calls
    ∙ ap (λ (bytes : List ℕ). if c.args.done then with_piece c.args.at c.args.piece.now bytes else bytes) c.args.self.now.replayed
    ∙ sym c.put_done.ensures.put

pub returns-clause-state : goal.returns-clause-state
returns-clause-state c = noted (fresh c.args.self.now.first) _ _ (Write c.args.at c.args.piece.now c.args.done) c.note_write.ensures.calls
