-- What is told of a store that is given.
use Rattle.std.specs.Prelude.{◌≡◌, Option, Some, None, ⊤}
use Rattle.vmv_keeper.specs.Tables.{Tables}

-- a store that tells the rows that were told of it, where any were
abbrev pub IsGivenAs : Option Tables → Option Tables → Type 0
IsGivenAs None held = ⊤
IsGivenAs (Some told) held = held ≡ Some told
