-- What is told of a store: its count of faults, and its rows where it tells them.
use Rattle.std.specs.Prelude.{◌≡◌, ℕ, ◌≤◌, Option, Some, None, Result, Ok, Err, ⊤}
use Rattle.vmv_edge.specs.Outside.{Rose}
use Rattle.vmv_keeper.specs.Tables.{Tables}
use Rattle.vmv_keeper.specs.declared.fault.KeepFault.{KeepFault}
use Rattle.vmv_keeper.specs.declared.fault.KeepFault.TheVariants.{Failed, Memory}

-- a call that failed has raised the count, and no other changes it
abbrev pub Counts : {T : Type 0} → Result T KeepFault → ℕ → ℕ → Type 0
Counts (Ok x) before now = now ≡ before
Counts (Err Failed) before now = Rose before now × (before ≤ now)
Counts (Err Memory) before now = now ≡ before

-- an answer that is the one of the rows, where they are told
abbrev pub IsAsIn : {A : Type 0} → (Tables → A) → Option Tables → A → Type 0
IsAsIn answer None x = ⊤
IsAsIn answer (Some tables) x = x ≡ answer tables

-- what is told has this property
abbrev pub OfTold : Option Tables → (Tables → Type 0) → Type 0
OfTold None P = ⊤
OfTold (Some tables) P = P tables
