-- Rooms that are reserved.
use Rattle.std.specs.Prelude.{◌≡◌, ℕ, ◌≤◌, [], Vec}
use Rattle.std.specs.Vec.{vec_capacity}
use Rattle.std.specs.declared.alloc.Global.{Global}

-- nothing is kept in it, and so many bytes have room
abbrev pub IsRoom : ℕ → Vec ℕ Global → Type 0
IsRoom size room = (room.items ≡ []) × (size ≤ vec_capacity room)
