-- What the stores in memory hold, and which of their calls fail.
use Rattle.vmv_edge.specs.declared.calls.Calls.{Calls}
use Rattle.vmv_keeper.specs.Tables.{Tables}
use Rattle.vmv_keeper.specs.declared.memory_keeper.MemoryKeeper.{MemoryKeeper}
use Rattle.vmv_keeper.specs.declared.faultless_keeper.FaultlessKeeper.{FaultlessKeeper}

-- the rows that a store holds
abbrev pub rows : MemoryKeeper → Tables
rows keeper = keeper.store

abbrev pub calls : MemoryKeeper → Calls
calls keeper = keeper.calls

-- the rows that a store holds that never fails
abbrev pub held_rows : FaultlessKeeper → Tables
held_rows keeper = keeper.store
