-- How the thresholds are collected. Private contracts alone cite these definitions.
use Rattle.std.specs.Prelude.{◌≡◌, ℕ, ℤ, Bool, true, false, Some, List, [], ◌∷◌, ◌++◌, length, take, slice_get}
use Rattle.std.specs.List.{Contains}
use Rattle.vmv_tree.specs.declared.name.Name.{Name}
use Rattle.vmv_tree.specs.declared.tree.Param.{Param}
use Rattle.vmv_tree.specs.Tree.{Item, Body, outside, helper, entry}
use Rattle.vmv_tree.specs.Limits.{entry_numbers}
use Rattle.vmv_snapshot.specs.Procs.{procs}
use Rattle.vmv_snapshot.specs.Reaches.{Reaches, ItemCalls}
use Rattle.vmv_cert.specs.Thresholds.{IsEntryOf, around}

abbrev pub is_proc : Item → Bool
is_proc (outside name arity) = false
is_proc (helper name params body) = true
is_proc (entry name params body) = true

-- the item at this place is the procedure of this number
pub record IsPlaceOf (items : List Item) (number : ℕ) (item : Item) (place : ℕ) : Type 0 where
  pub stands : slice_get items place ≡ Some item
  pub before : length (procs (take place items)) ≡ number

-- the procedure of number n, which the one of number proc reaches, calls this name
abbrev pub CallsFrom : List Item → ℕ → Name → ℕ → Type 0
CallsFrom program proc name n =
    (item : Item) × Reaches program proc n × (slice_get (procs program) n ≡ Some item) × ItemCalls item name

-- a literal, cap or range end of the entry and the helpers that it reaches
abbrev pub IsNumberOf : List Item → ℕ → ℤ → Type 0
IsNumberOf program proc c =
    (above : List Item) × (params : List Param) × (body : Body) × IsEntryOf program proc above params body × Contains (entry_numbers above params body) c

-- what each of these gives
abbrev pub around_all : List ℤ → List ℤ
around_all [] = []
around_all (c ∷ seeds) = around c ++ around_all seeds
