-- What one more call in the record of a disk tells.
use Rattle.std.proofs.Common.{◌≡◌, ℕ, Bool, true, false, List, [], ◌∷◌, ◌++◌, refl, ap, ◌∙◌}
use Rattle.std.specs.Prelude.{if◌then◌else◌}
use Rattle.vmv_disk.specs.State.{DiskState}
use Rattle.vmv_disk.specs.Effects.{with_piece}
use Rattle.vmv_disk.specs.Replay.{after_call, after_calls}
use Rattle.vmv_disk.specs.Laws.{after_calls_last}
use Rattle.vmv_disk.specs.declared.disk_call.DiskCall.{DiskCall}
use Rattle.vmv_disk.specs.declared.disk_call.DiskCall.TheVariants.{Size, Read, Write, Sync}

-- the state after the calls of a record to which one was added
pub noted : (disk : DiskState) (calls new : List DiskCall) (call : DiskCall) → new ≡ calls ++ call ∷ [] → after_calls disk new ≡ after_call (after_calls disk calls) call
noted disk calls new call is = ap (λ (cs : List DiskCall). after_calls disk cs) is ∙ after_calls_last calls call disk

pub size_noted : (disk : DiskState) (calls new : List DiskCall) (done : Bool) → new ≡ calls ++ Size done ∷ [] → after_calls disk new ≡ after_calls disk calls
size_noted disk calls new done is = noted disk calls new (Size done) is

pub read_noted : (disk : DiskState) (calls new : List DiskCall) (at most : ℕ) (done : Bool) → new ≡ calls ++ Read at most done ∷ [] → after_calls disk new ≡ after_calls disk calls
read_noted disk calls new at most done is = noted disk calls new (Read at most done) is

bytes_synced : (disk : DiskState) (done : Bool) → (after_call disk (Sync done)).bytes ≡ disk.bytes
bytes_synced disk true = refl
bytes_synced disk false = refl

pub sync_noted : (disk : DiskState) (calls new : List DiskCall) (done : Bool) → new ≡ calls ++ Sync done ∷ [] → (after_calls disk new).bytes ≡ (after_calls disk calls).bytes
sync_noted disk calls new done is = ap (λ (s : DiskState). s.bytes) (noted disk calls new (Sync done) is) ∙ bytes_synced (after_calls disk calls) done

pub write_noted : (disk : DiskState) (calls new : List DiskCall) (at : ℕ) (piece : List ℕ) (done : Bool) → new ≡ calls ++ Write at piece done ∷ [] → (after_calls disk new).bytes ≡ (if done then with_piece at piece (after_calls disk calls).bytes else (after_calls disk calls).bytes)
write_noted disk calls new at piece done is = ap (λ (s : DiskState). s.bytes) (noted disk calls new (Write at piece done) is)
