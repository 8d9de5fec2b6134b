-- What a disk in memory tells, by the record of its calls.
use Rattle.std.specs.Prelude.{ℕ, List, [], ◌∷◌, length, if◌then◌else◌}
use Rattle.vmv_disk.specs.State.{Moment, DiskState}
use Rattle.vmv_disk.specs.Effects.{with_piece, begun_at, synced_as}
use Rattle.vmv_disk.specs.declared.disk_call.DiskCall.{DiskCall}
use Rattle.vmv_disk.specs.declared.disk_call.DiskCall.TheVariants.{Size, Read, Write, Sync}

-- a disk that has these bytes, before any call
abbrev pub fresh : List ℕ → DiskState
fresh bytes = record { bytes = bytes; present = synced_as bytes; past = [] }

-- the disk at one more moment
abbrev pub at_moment : Moment → List ℕ → DiskState → DiskState
at_moment moment bytes disk = record { bytes = bytes; present = moment; past = disk.present ∷ disk.past }

-- the disk after a call
abbrev pub after_call : DiskState → DiskCall → DiskState
after_call disk (Size done) = disk
after_call disk (Read at most done) = disk
after_call disk (Write at bytes done) =
    at_moment (begun_at at (length bytes) disk.present) (if done then with_piece at bytes disk.bytes else disk.bytes) disk
after_call disk (Sync done) = if done then at_moment (synced_as disk.bytes) disk.bytes disk else disk

-- the disk after some calls, one after another
abbrev pub after_calls : DiskState → List DiskCall → DiskState
after_calls disk [] = disk
after_calls disk (call ∷ calls) = after_calls (after_call disk call) calls
