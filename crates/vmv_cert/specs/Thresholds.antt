-- The thresholds of an entry: the bounds that a state which is kept at a loop may have.
use Rattle.std.specs.Prelude.{◌≡◌, ◌⊎◌, ◌^◌, ◌-◌, ℕ, ℤ, pos, negsuc, ◌+ℤ◌, ◌-ℤ◌, neg_ℤ, List, ◌∷◌, ◌++◌, [], length, reverse, slice_get, Some}
use Rattle.std.specs.List.{Contains}
use Rattle.vmv_tree.specs.declared.name.Name.{Name}
use Rattle.vmv_tree.specs.declared.ends.NameEnds.{NameEnds}
use Rattle.vmv_tree.specs.declared.tree.Param.{Param}
use Rattle.vmv_tree.specs.Tree.{Body, Item, outside, entry}
use Rattle.vmv_tree.specs.Limits.{entry_numbers}
use Rattle.vmv_snapshot.specs.Reaches.{Reaches, ItemCalls}
use Rattle.vmv_snapshot.specs.Procs.{procs, outsides}

-- the entry of this number, with the items above it, the nearest first
pub record IsEntryOf (program : List Item) (proc : ℕ) (above : List Item) (params : List Param) (body : Body) : Type 0 where
  pub before : List Item
  pub name : Name
  pub after : List Item
  pub parts : program ≡ before ++ entry name params body ∷ after
  pub place : length (procs before) ≡ proc
  pub nearest : above ≡ reverse before

-- the procedure, or one that it reaches, calls this outside name
abbrev pub ReachesOutside : List Item → ℕ → Name → Type 0
ReachesOutside program proc name =
    Contains (outsides program) name
    × ((n : ℕ) × (item : Item) × Reaches program proc n × (slice_get (procs program) n ≡ Some item) × ItemCalls item name)

-- the ends of the outside names that it reaches
abbrev pub IsEndOf : List Item → ℕ → List NameEnds → ℤ → Type 0
IsEndOf program proc ends c = (e : NameEnds) × Contains ends e × ReachesOutside program proc e.name × Contains e.ends c

-- a literal, cap or range end of the entry and the helpers that it reaches, an end of a name that it reaches, or the
-- least word, the greatest, 0 or 1
abbrev pub IsSeed : List Item → ℕ → List NameEnds → ℤ → Type 0
IsSeed program proc ends c =
    ((above : List Item) × (params : List Param) × (body : Body) × IsEntryOf program proc above params body × Contains (entry_numbers above params body) c)
    ⊎ (IsEndOf program proc ends c ⊎ Contains (negsuc (2 ^ 63 - 1) ∷ pos (2 ^ 63 - 1) ∷ pos 0 ∷ pos 1 ∷ []) c)

-- what a seed gives: it and its neighbours, and the same of its negation
abbrev pub around : ℤ → List ℤ
around c = c ∷ (c -ℤ pos 1) ∷ (c +ℤ pos 1) ∷ neg_ℤ c ∷ (neg_ℤ c -ℤ pos 1) ∷ (neg_ℤ c +ℤ pos 1) ∷ []

abbrev pub IsThreshold : List Item → ℕ → List NameEnds → ℤ → Type 0
IsThreshold program proc ends t = (t ≡ pos (2 ^ 64 - 1)) ⊎ ((c : ℤ) × IsSeed program proc ends c × Contains (around c) t)
