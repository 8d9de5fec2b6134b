-- Versions that stay as they are.
use Rattle.std.specs.Prelude.{◌≡◌, List, ◌++◌}
use Rattle.vmv_keeper.specs.declared.project.Version.{Version}

-- the versions from before, with their texts, and any more behind them
abbrev pub Extends : List Version → List Version → Type 0
Extends before now = (more : List Version) × (now ≡ before ++ more)
