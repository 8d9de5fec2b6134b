-- Levels: ranges around 0 that the answers of all outside names are kept to where no demand helps.
use Rattle.std.specs.Prelude.{◌≡◌, ◌⊎◌, ◌↔◌, ℕ, ◌^◌, ℤ, pos, neg_ℤ, ◌≤ℤ◌, ◌<ℤ◌, List, [], ◌∷◌}
use Rattle.std.specs.List.{Contains}
use Rattle.vmv_tree.specs.declared.name.Name.{Name}
use Rattle.vmv_cond.specs.declared.cond.Cond.{Cond}
use Rattle.vmv_cond.specs.Cond.{Holds, IsEmpty}
use Rattle.vmv_snapshot.specs.Procs.{outsides}
use Rattle.vmv_snapshot.specs.Resolution.{Resolution, tree_of}
use Rattle.vmv_assumption.specs.Assumed.{Assumed}

-- the levels, in the order in which they are taken
abbrev pub all_levels : List ℕ
all_levels = 62 ∷ 31 ∷ 15 ∷ 7 ∷ []

-- the words of level k, from -2^k to 2^k - 1
abbrev pub InLevel : ℕ → ℤ → Type 0
InLevel k w = (neg_ℤ (pos (2 ^ k)) ≤ℤ w) × (w <ℤ pos (2 ^ k))

-- it holds the words of the condition that are of the level
abbrev pub IsLevelMeet : ℕ → Cond → Cond → Type 0
IsLevelMeet k had met = (w : ℤ) → Holds met w ↔ (Holds had w × InLevel k w)

-- the condition met with the level, where that holds a word; else the condition as it was
pub record IsKeptTo (k : ℕ) (had cond : Cond) : Type 0 where
  pub met : Cond
  pub meet : IsLevelMeet k had met
  pub choice : (¬ IsEmpty met × (cond ≡ met)) ⊎ (IsEmpty met × (cond ≡ had))

-- b is a with the condition of each outside name, called or not, kept to the level where that holds a word
pub record IsLevelled (program : Resolution) (k : ℕ) (a b : Assumed) : Type 0 where
  pub there : (name : Name) → Contains (outsides (tree_of program)) name → IsKeptTo k (a name) (b name)
  pub elsewhere : (name : Name) → ¬ Contains (outsides (tree_of program)) name → b name ≡ a name
