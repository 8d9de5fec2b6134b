-- Valuations of names and the words of slots, side by side.
use Rattle.std.specs.Prelude.{◌≡◌, ℕ, zero, suc, ◌+◌, ◌≤◌, ℤ, pos, Option, Some, None, List, [], ◌∷◌, length, map, slice_get, get_or, ⊤}
use Rattle.std.specs.List.{All, Contains}
use Rattle.vmv_tree.specs.declared.name.Name.{Name}
use Rattle.vmv_tree.specs.Words.{IsWord}
use Rattle.vmv_tree.specs.Tree.{Item, outside, helper, entry}
use Rattle.vmv_tree.specs.Run.{Valuation, Answers, Outcome, done, RunsAbove}
use Rattle.vmv_snapshot.specs.declared.code.CodeOperand.{CodeOperand}
use Rattle.vmv_snapshot.specs.declared.code.CodeOperand.TheVariants.{Lit, Var}
use Rattle.vmv_snapshot.specs.declared.code.Simple.{Simple}
use Rattle.vmv_snapshot.specs.declared.code.Simple.TheVariants.{Set, Arith, Ask, Assert}
use Rattle.vmv_snapshot.specs.Resolves.{slot_names}
use Rattle.vmv_zone.specs.declared.zone.Zone.{Zone}
use Rattle.vmv_zone.specs.Zone.{HasPoint}

-- The names of the slots of a procedure with so many variables: slot 0 stands for no variable and has none, and no two
-- slots have one name.
pub record AreSlots (vars : ℕ) (slots : List (Option Name)) : Type 0 where
  pub count : length slots ≡ vars + 1
  pub few : vars ≤ 16
  pub origin : slice_get slots 0 ≡ Some None
  pub once : (m n : ℕ) (name : Name) → slice_get slots m ≡ Some (Some name) → slice_get slots n ≡ Some (Some name) → m ≡ n

-- the names of the slots of a procedure with so many variables
abbrev pub AreSlotsOf : Item → ℕ → Type 0
AreSlotsOf (outside name arity) vars = ⊥
AreSlotsOf (helper name params body) vars = AreSlots vars (slot_names params body)
AreSlotsOf (entry name params body) vars = AreSlots vars (slot_names (map (λ p. p.name) params) body)

-- each slot that has a name has the word that the valuation gives the name
pub record Agrees (slots : List (Option Name)) (v : Valuation) (p : ℕ → ℤ) : Type 0 where
  pub named : (n : ℕ) (name : Name) → slice_get slots n ≡ Some (Some name) → p n ≡ v name
  pub words : (name : Name) → IsWord (v name)

-- the slots without a name, which have the bounds of loops, have the same words
abbrev pub IsSameUnnamed : List (Option Name) → (ℕ → ℤ) → (ℕ → ℤ) → Type 0
IsSameUnnamed slots p q = (n : ℕ) → slice_get slots n ≡ Some None → q n ≡ p n

-- z has a point that agrees with the valuation w, with p's words in the slots without a name
pub record Follows (z : Zone) (slots : List (Option Name)) (w : Valuation) (p : ℕ → ℤ) : Type 0 where
  pub after : ℕ → ℤ
  pub point : HasPoint z after
  pub agrees : Agrees slots w after
  pub unnamed : IsSameUnnamed slots p after

-- z has a point that agrees with the valuation v
pub record HasStart (z : Zone) (slots : List (Option Name)) (v : Valuation) : Type 0 where
  pub at : ℕ → ℤ
  pub point : HasPoint z at
  pub agrees : Agrees slots v at

-- a literal is a word
abbrev pub IsWordOperand : CodeOperand → Type 0
IsWordOperand (Lit word) = IsWord word
IsWordOperand (Var slot) = ⊤

-- each literal that a statement reads is a word
abbrev pub HasWords : Simple → Type 0
HasWords (Set to from) = IsWordOperand from
HasWords (Arith to op left right site) = IsWordOperand left × IsWordOperand right
HasWords (Ask to callee args) = All IsWordOperand args
HasWords (Assert test site) = IsWordOperand test.left × IsWordOperand test.right

-- a call of one of these names, which the items above declare, answers any word
abbrev pub AreAsked : List Item → List Name → Type 0
AreAsked above names = (name : Name) (words : List ℤ) (answers : Answers) (outcome : Outcome) → Contains names name → RunsAbove above name words answers outcome
    → (word : ℤ) × IsWord word × (answers ≡ (name, word) ∷ []) × (outcome ≡ done word)

-- the statement has the site of this number
abbrev pub HasSite : Simple → ℕ → Type 0
HasSite (Set to from) n = ⊥
HasSite (Arith to op left right site) n = site ≡ n
HasSite (Ask to callee args) n = ⊥
HasSite (Assert test site) n = site ≡ n

-- the words of a list as those of variables, counted from 1; thing 0 is 0
abbrev pub words_at : List ℤ → ℕ → ℤ
words_at words zero = pos 0
words_at words (suc k) = get_or words k (pos 0)
