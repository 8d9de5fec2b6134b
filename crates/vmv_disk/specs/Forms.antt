-- What the disk in memory holds, and which of its calls fail.
use Rattle.std.specs.Prelude.{◌≡◌, ℕ, ◌+◌, ◌<◌, ◌≤◌, ◌⊎◌, Bool, not, nat_lt, List, [], ◌∷◌, ◌++◌, length, IsTrue, if◌then◌else◌}
use Rattle.vmv_edge.specs.declared.calls.Calls.{Calls}
use Rattle.vmv_edge.specs.Calls.{is_to_fail}
use Rattle.vmv_disk.specs.State.{DiskState}
use Rattle.vmv_disk.specs.Replay.{fresh, after_calls}
use Rattle.vmv_disk.specs.declared.disk_call.DiskCall.{DiskCall}
use Rattle.vmv_disk.specs.declared.memory_disk.MemoryDisk.{MemoryDisk}

-- the bytes that a disk began with
abbrev pub first_bytes : MemoryDisk → List ℕ
first_bytes disk = disk.kept.first

-- the bytes that reads give
abbrev pub disk_bytes : MemoryDisk → List ℕ
disk_bytes disk = disk.kept.bytes.items

-- the calls that were made, in their order
abbrev pub recorded : MemoryDisk → List DiskCall
recorded disk = disk.kept.log.calls.items

-- what the record tells
abbrev pub state_of : MemoryDisk → DiskState
state_of disk = after_calls (fresh (first_bytes disk)) (recorded disk)

abbrev pub disk_calls : MemoryDisk → Calls
disk_calls disk = disk.calls

-- the next call isn't to fail
abbrev pub works : MemoryDisk → Bool
works disk = not (is_to_fail (disk_calls disk))

-- how many bytes a disk was made for
abbrev pub room_of : MemoryDisk → ℕ
room_of disk = disk.kept.log.size

-- how many calls a disk was made for
abbrev pub places_of : MemoryDisk → ℕ
places_of disk = disk.kept.log.places

-- the record with a call, where there is room for it
abbrev pub recorded_with : DiskCall → MemoryDisk → List DiskCall
recorded_with call disk = if nat_lt (length (recorded disk)) (places_of disk) then recorded disk ++ call ∷ [] else recorded disk

-- the next call is to fail, or there is no room to record it
abbrev pub CallFails : MemoryDisk → Type 0
CallFails disk = IsTrue (is_to_fail (disk_calls disk)) ⊎ (places_of disk ≤ length (recorded disk))

-- the piece begins behind the bytes, or ends past the room
abbrev pub IsPastRoom : MemoryDisk → ℕ → List ℕ → Type 0
IsPastRoom disk at piece = (length (disk_bytes disk) < at) ⊎ (room_of disk < at + length piece)

-- the disk began with the same bytes, and was made for as many bytes and calls
abbrev pub IsSameDisk : MemoryDisk → MemoryDisk → Type 0
IsSameDisk before now = (first_bytes now ≡ first_bytes before) × (room_of now ≡ room_of before) × (places_of now ≡ places_of before)
