-- What a shelf in memory holds.
use Rattle.std.specs.Prelude.{ℕ, List, [], ◌∷◌, Option, Some, None, if◌then◌else◌, nat_eq}
use Rattle.std.specs.Cmp.Lexicographic.{pointwise}
use Rattle.vmv_edge.specs.declared.memory_shelf.Entry.{Entry}

-- the first text that is held under the name
abbrev pub text_under : List Entry → List ℕ → Option (List ℕ)
text_under [] name = None
text_under (entry ∷ rest) name = if pointwise nat_eq entry.name name then Some entry.text else text_under rest name
