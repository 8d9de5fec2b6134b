-- What each call of an honest disk does.
use Rattle.std.specs.Prelude.{◌≡◌, ℕ, ◌+◌, ◌≤◌, ◌⊎◌, List, [], ◌∷◌, ◌++◌, length, take, drop, Option, Some, None, ⊤}
use Rattle.vmv_disk.specs.State.{Moment, DiskState, MayLeave}

-- the bytes with a piece put at a place
abbrev pub with_piece : ℕ → List ℕ → List ℕ → List ℕ
with_piece at piece bytes = take at bytes ++ piece ++ drop (at + length piece) bytes

-- the moment at which a write into one more stretch begins
abbrev pub begun_at : ℕ → ℕ → Moment → Moment
begun_at at size moment = record { synced = moment.synced; begun = record { at = at; size = size } ∷ moment.begun }

-- the moment at which a sync of these bytes answers Ok
abbrev pub synced_as : List ℕ → Moment
synced_as bytes = record { synced = bytes; begun = [] }

-- one more moment has come
pub record IsNext (moment : Moment) (before now : DiskState) : Type 0 where
  pub present : now.present ≡ moment
  pub past : now.past ≡ before.present ∷ before.past

-- bytes that differ from those before in the stretch at most, and end at its end at most where they are longer
abbrev pub DifferIn : ℕ → ℕ → List ℕ → List ℕ → Type 0
DifferIn at size before now = MayLeave (begun_at at size (synced_as before)) now

-- a write that answered Ok: one that begins at or below the length puts its bytes, and changes nothing else
pub record IsWritten (at : ℕ) (piece : List ℕ) (before now : DiskState) : Type 0 where
  pub put : at ≤ length before.bytes → now.bytes ≡ with_piece at piece before.bytes
  pub within : DifferIn at (length piece) before.bytes now.bytes
  pub begun : IsNext (begun_at at (length piece) before.present) before now

-- a write that has failed after it began
pub record IsTorn (at size : ℕ) (before now : DiskState) : Type 0 where
  pub within : DifferIn at size before.bytes now.bytes
  pub begun : IsNext (begun_at at size before.present) before now

-- a write that has failed, before it began or after
abbrev pub HasFailed : ℕ → ℕ → DiskState → DiskState → Type 0
HasFailed at size before now = (now ≡ before) ⊎ IsTorn at size before now

-- a sync that answered Ok: from then on a crash leaves what reads give
pub record IsSynced (before now : DiskState) : Type 0 where
  pub same : now.bytes ≡ before.bytes
  pub kept : IsNext (synced_as before.bytes) before now

-- an honest disk goes from one state to the other, and stays honest; any other disk stays so
abbrev pub Goes : (DiskState → DiskState → Type 0) → Option DiskState → Option DiskState → Type 0
Goes step None None = ⊤
Goes step (Some before) (Some now) = step before now
Goes step None (Some now) = ⊥
Goes step (Some before) None = ⊥
