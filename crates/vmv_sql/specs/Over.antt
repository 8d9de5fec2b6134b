-- What a store is over.
use Rattle.sqlite.below.sqlite_trees.specs.declared.store.Store.{Ghosts}
use Rattle.sqlite.specs.Held.{Held}
use Rattle.vmv_sql.specs.declared.keeper.SqlKeeper.{SqlKeeper}

-- the connection of a store
abbrev pub connection_of : {S : Type 0} {g : Ghosts S} → SqlKeeper S g → Held S
connection_of keeper = keeper.connection
