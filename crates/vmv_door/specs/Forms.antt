-- What the doors in memory hold, and which of their calls fail.
use Rattle.std.specs.Prelude.{ℕ, Bool, true, false, List, [], ◌∷◌, ◌-◌, length}
use Rattle.vmv_edge.specs.declared.calls.Calls.{Calls}
use Rattle.vmv_edge.specs.declared.memory_link.MemoryLink.{MemoryLink}
use Rattle.vmv_edge.specs.declared.memory_link.FaultlessLink.{FaultlessLink}
use Rattle.vmv_door.specs.declared.memory_door.MemoryDoor.{MemoryDoor}
use Rattle.vmv_door.specs.declared.faultless_door.FaultlessDoor.{FaultlessDoor}
use Rattle.vmv_door.specs.Links.{Links}

-- no link is left
abbrev pub is_none_left : {L : Type 0} → List L → Bool
is_none_left [] = true
is_none_left (link ∷ rest) = false

abbrev pub door_calls : MemoryDoor → Calls
door_calls door = door.calls

abbrev pub door_links : MemoryDoor → Links MemoryLink
door_links door = record { left = door.queue.left.items; back = door.queue.back.items }

abbrev pub is_open : MemoryDoor → Bool
is_open door = door.listening

abbrev pub none_left : MemoryDoor → Bool
none_left door = is_none_left door.queue.left.items

-- how many links a door has given, and how many were given back
abbrev pub given_of : MemoryDoor → ℕ
given_of door = door.queue.total - length door.queue.left.items

abbrev pub back_of : MemoryDoor → ℕ
back_of door = length door.queue.back.items

-- the same of a door that never fails
abbrev pub whole_links : FaultlessDoor → Links FaultlessLink
whole_links door = record { left = door.queue.left.items; back = door.queue.back.items }

abbrev pub is_whole_open : FaultlessDoor → Bool
is_whole_open door = door.listening

abbrev pub no_whole_left : FaultlessDoor → Bool
no_whole_left door = is_none_left door.queue.left.items

abbrev pub whole_given : FaultlessDoor → ℕ
whole_given door = door.queue.total - length door.queue.left.items

abbrev pub whole_back : FaultlessDoor → ℕ
whole_back door = length door.queue.back.items
