-- Slots and procedures, and their names.
use Rattle.std.specs.Prelude.{◌≡◌, ℕ, Option, Some, List, slice_get}
use Rattle.vmv_tree.specs.declared.name.Name.{Name}

-- no two of these slots have one name
abbrev pub AreNamedOnce : List (Option Name) → Type 0
AreNamedOnce slots = (m n : ℕ) (x : Name) → slice_get slots m ≡ Some (Some x) → slice_get slots n ≡ Some (Some x) → m ≡ n
