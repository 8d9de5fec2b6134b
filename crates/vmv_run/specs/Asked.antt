-- The outside functions that a run asks.
use Rattle.std.specs.Prelude.{◌≡◌, ℤ, List, [], ◌∷◌, ⊤}
use Rattle.std.specs.List.{Contains}
use Rattle.vmv_tree.specs.declared.name.Name.{Name}
use Rattle.vmv_tree.specs.Tree.{Item, outside}
use Rattle.vmv_tree.specs.Run.{Answers}
use Rattle.vmv_tree.specs.Safe.{Environment, words_of}

-- some outside item of the program has this name
abbrev pub IsOutside : List Item → Name → Type 0
IsOutside program name = (arity : ℤ) × Contains program (outside name arity)

-- each answer carries the name of an outside item
abbrev pub AreOutside : List Item → Answers → Type 0
AreOutside program [] = ⊤
AreOutside program (p ∷ answers) = IsOutside program p.0 × AreOutside program answers

-- the two environments give the outside names of the program the same words
abbrev pub AreSameFor : List Item → Environment → Environment → Type 0
AreSameFor program env other = (name : Name) → IsOutside program name → words_of env name ≡ words_of other name
