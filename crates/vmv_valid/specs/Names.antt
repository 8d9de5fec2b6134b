-- Names among others.
use Rattle.std.specs.Prelude.{Bool, List}
use Rattle.std.specs.List.{list_any}
use Rattle.std.specs.Str.{bytes_eq}
use Rattle.vmv_tree.specs.declared.name.Name.{Name}

-- a name is one of these
abbrev pub is_among : List Name → Name → Bool
is_among names name = list_any (bytes_eq name) names
