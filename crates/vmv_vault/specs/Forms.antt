-- What the vaults in memory give, and which of their calls fail.
use Rattle.std.specs.Prelude.{ℕ, List, Option, Some, None}
use Rattle.vmv_edge.specs.declared.calls.Calls.{Calls}
use Rattle.vmv_keeper.specs.Tables.{Tables, no_rows}
use Rattle.vmv_keeper.specs.Forms.{held_rows}
use Rattle.vmv_keeper.specs.declared.faultless_keeper.FaultlessKeeper.{FaultlessKeeper}
use Rattle.vmv_vault.specs.declared.memory_vault.MemoryVault.{MemoryVault}
use Rattle.vmv_vault.specs.declared.faultless_vault.FaultlessVault.{FaultlessVault}

abbrev pub vault_calls : MemoryVault → Calls
vault_calls vault = vault.calls

-- which calls fail of each store that the vault gives
abbrev pub store_failing : MemoryVault → List ℕ
store_failing vault = vault.in_stores.items

-- the rows of a store that was given back, and none where none was
abbrev pub rows_back : Option FaultlessKeeper → Tables
rows_back None = no_rows
rows_back (Some keeper) = held_rows keeper

-- the rows of the store that is given next by a vault that never fails
abbrev pub next_rows : FaultlessVault → Tables
next_rows vault = rows_back vault.back
